use Rattle.std.proofs.Common.{sym, subst}
use Rattle.std.specs.Ordering.{nat_cmp}
use Rattle.dnsv_zones.specs.forms.Parts.{AreNoDataParts}
use Rattle.dnsv_proof_forms.specs.words.ChainSaid.{chain_said}
use Rattle.dnsv_proof_forms.proofs.lemmas.forms.MeaningAt.{no_data_at}
use Rattle.dnsv_proof_forms.proofs.lemmas.forms.ShowsLemmas.{no_data_parts}
use Rattle.dnsv_proof_forms.proofs.forms.places.no_data.Goals as goal

pub returns-clause-first : goal.returns-clause-first
returns-clause-first c =
    subst (AreNoDataParts nat_cmp (chain_said c.args.apex.now c.args.records.now) c.args.apex.now c.args.name.now c.args.rtype.0) (sym c.form_places.ensures)
    (no_data_parts nat_cmp (chain_said c.args.apex.now c.args.records.now) c.args.apex.now c.args.name.now c.args.rtype.0 c.in-Some.form c.in-Some.ensures)

pub returns-clause-meaning : goal.returns-clause-meaning
returns-clause-meaning c =
    no_data_at c.args.apex.now c.args.name.now c.args.rtype.0 c.args.records.now c.form_places.result.items (returns-clause-first c)
