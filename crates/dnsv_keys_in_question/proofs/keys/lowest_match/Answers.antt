use Rattle.std.proofs.Common.{◌∙◌, subst, sym}
use Rattle.std.proofs.lemmas.Bool.{false≢true}
use Rattle.dnsv_names.specs.Name.{Labels}
use Rattle.dnsv_chain.specs.Ds.{IsMatch}
use Rattle.dnsv_derivations.specs.Explained.{setting_in}
use Rattle.dnsv_keys_in_question.proofs.lemmas.ShownKeyLemmas.{unmatched}
use Rattle.dnsv_keys_in_question.proofs.keys.lowest_match.Goals as goal

pub returns-then-not-has_match : goal.returns-then-not-has_match
returns-then-not-has_match c =
    unmatched (setting_in c.args.evidence.now) c.args.key.now c.args.number c.args.ds.now c.requires
    c.ds_records-values.result.now c.ds_records-values.ensures
    (λ each there matching.
    let Matches : Labels → Type 0 = λ owner. IsMatch owner each c.args.key.now in
    false≢true (sym c.if-not-has_match.true ∙ c.has_match.ensures.1 (record { ds = each; among = there; matching = subst Matches (sym c.owner.ensures) matching })))

pub returns : goal.returns
returns c = c.in_ok-place.ensures
