use Rattle.std.proofs.Common.{sym, ◌∙◌}
use Rattle.std.proofs.lemmas.Bool.{false≢true}
use Rattle.dnsv_derivations.specs.Explained.{setting_in}
use Rattle.dnsv_derivations.proofs.lemmas.NumberedLemmas.{all_passed, numbered_at}
use Rattle.dnsv_derivations.proofs.lemmas.unsigned_cuts.UnusableLemmas.{first_found, none_at_all, none_at_first, none_to_next}
use Rattle.dnsv_derivations.proofs.unsigned_cuts.unusable.first_unusable.Goals as goal

pub loop-place-init : goal.loop-place-init
loop-place-init c = none_at_first (setting_in c.args.evidence.now) c.args.name.now

pub is_unusable-requires : goal.is_unusable-requires
is_unusable-requires c =
    numbered_at c.args.evidence.now.rrsets c.rrsets-rrset-items.result.now c.loop-place.place c.rrset-item.result
    c.rrsets-rrset-items.ensures c.loop-place-test.true c.rrset-item.is

pub loop-place-preserved : goal.loop-place-preserved
loop-place-preserved c =
    none_to_next (setting_in c.args.evidence.now) c.args.name.now c.loop-place.place
    (λ is. false≢true (sym c.if-is_unusable.false ∙ c.is_unusable.ensures.1 is)) c.loop-place.invariant

pub returns-then-is_unusable : goal.returns-then-is_unusable
returns-then-is_unusable c =
    first_found (setting_in c.args.evidence.now) c.args.name.now c.loop-place.place
    (c.is_unusable.ensures.0 c.if-is_unusable.true) c.loop-place.invariant

pub returns : goal.returns
returns c =
    none_at_all (setting_in c.args.evidence.now) c.args.name.now c.loop-place.place
    (all_passed c.args.evidence.now.rrsets c.rrsets-rrset-items.result.now c.loop-place.place c.rrsets-rrset-items.ensures
    c.loop-place-test.false)
    c.loop-place.invariant
