use Rattle.dnsv_rules.proofs.needs.RecordLemmas.{zone_trusted}
use Rattle.dnsv_rules.proofs.laws.a_proof_of_a_text_is_of_a_trusted_zone.Goals as goal

pub returns : goal.returns
returns c = zone_trusted
