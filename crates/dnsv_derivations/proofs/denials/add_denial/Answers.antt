use Rattle.std.proofs.Common.{◌∙◌}
use Rattle.dnsv_derivations.specs.Explained.{setting_in}
use Rattle.dnsv_derivations.proofs.lemmas.denials.ShownLemmas.{shown_facts}
use Rattle.dnsv_derivations.proofs.lemmas.denials.TellingLemmas.{denial_told, its_parts, its_records}
use Rattle.dnsv_derivations.proofs.denials.add_denial.Goals as goal

pub add_records-requires : goal.add_records-requires
add_records-requires c =
    its_records (setting_in c.args.evidence.now) c.args.name.now c.args.shown.now c.zone.result.now c.records.result.now
    c.zone.ensures c.records.ensures (shown_facts (setting_in c.args.evidence.now) c.args.name.now c.args.shown.now c.requires)

pub add_case_for-requires : goal.add_case_for-requires
add_case_for-requires c = (shown_facts (setting_in c.args.evidence.now) c.args.name.now c.args.shown.now c.requires).facts.case

pub add_proof-requires : goal.add_proof-requires
add_proof-requires c = (shown_facts (setting_in c.args.evidence.now) c.args.name.now c.args.shown.now c.requires).facts.encloser

pub add_parts-requires : goal.add_parts-requires
add_parts-requires c =
    its_parts (setting_in c.args.evidence.now) c.args.name.now c.args.shown.now c.deref.result.now
    (c.deref.ensures.0 ∙ c.parts.ensures) (shown_facts (setting_in c.args.evidence.now) c.args.name.now c.args.shown.now c.requires)

pub returns : goal.returns
returns c =
    denial_told (setting_in c.args.evidence.now) c.args.name.now c.args.shown.now c.zone.result.now c.records.result.now c.deref.result.now
    _ _ _ _ _ c.zone.ensures c.records.ensures (c.deref.ensures.0 ∙ c.parts.ensures)
    c.in_ok-add_records.ensures c.in_ok-add_case_for.ensures c.in_ok-add_proof.ensures c.in_ok-add_parts.ensures
