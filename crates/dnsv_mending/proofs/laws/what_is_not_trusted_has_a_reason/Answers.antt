use Rattle.dnsv_mending.proofs.Reasons.{has_reason, unsigned_has_reason}
use Rattle.dnsv_mending.proofs.laws.what_is_not_trusted_has_a_reason.Goals as goal

pub returns-clause-zone : goal.returns-clause-zone
returns-clause-zone c = has_reason

pub returns-clause-rrset : goal.returns-clause-rrset
returns-clause-rrset c = unsigned_has_reason
