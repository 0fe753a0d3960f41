use Rattle.dnsv_rules.proofs.needs.RecordLemmas.{needs_part, needs_signature}
use Rattle.dnsv_rules.proofs.laws.a_text_without_records_does_not_check.Goals as goal

pub returns-clause-parts : goal.returns-clause-parts
returns-clause-parts c = λ setting asked lines proof there none checks. needs_part setting asked lines proof checks there none

pub returns-clause-zone : goal.returns-clause-zone
returns-clause-zone c = λ setting asked lines proof there none checks. needs_signature setting asked lines proof checks there none
