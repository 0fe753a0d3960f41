use Rattle.dnsv_mending.proofs.Enough.{nothing_granted, nothing_granted_of_rrset}
use Rattle.dnsv_mending.proofs.laws.who_grants_nothing_has_what_is_trusted.Goals as goal

pub returns-clause-zone : goal.returns-clause-zone
returns-clause-zone c = nothing_granted

pub returns-clause-rrset : goal.returns-clause-rrset
returns-clause-rrset c = nothing_granted_of_rrset
