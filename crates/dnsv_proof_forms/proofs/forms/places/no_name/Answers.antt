use Rattle.std.proofs.Common.{sym, subst}
use Rattle.std.specs.Ordering.{nat_cmp}
use Rattle.dnsv_zones.specs.forms.Parts.{AreNoNameParts}
use Rattle.dnsv_proof_forms.specs.words.ChainSaid.{chain_said}
use Rattle.dnsv_proof_forms.proofs.lemmas.forms.MeaningAt.{no_name_at}
use Rattle.dnsv_proof_forms.proofs.lemmas.forms.ShowsLemmas.{no_name_parts}
use Rattle.dnsv_proof_forms.proofs.forms.places.no_name.Goals as goal

pub returns-clause-first : goal.returns-clause-first
returns-clause-first c =
    subst (AreNoNameParts nat_cmp (chain_said c.args.apex.now c.args.records.now) c.args.apex.now c.args.name.now) (sym c.form_places.ensures)
    (no_name_parts nat_cmp (chain_said c.args.apex.now c.args.records.now) c.args.apex.now c.args.name.now c.in-Some.form c.in-Some.ensures)

pub returns-clause-meaning : goal.returns-clause-meaning
returns-clause-meaning c =
    no_name_at c.args.apex.now c.args.name.now c.args.records.now c.form_places.result.items (returns-clause-first c)
