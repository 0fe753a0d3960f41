use Rattle.dnsv_mending.proofs.Always.{always, always_of_rrset}
use Rattle.dnsv_mending.proofs.laws.something_always_leads_there.Goals as goal

pub returns-clause-zone : goal.returns-clause-zone
returns-clause-zone c = always

pub returns-clause-rrset : goal.returns-clause-rrset
returns-clause-rrset c = always_of_rrset
