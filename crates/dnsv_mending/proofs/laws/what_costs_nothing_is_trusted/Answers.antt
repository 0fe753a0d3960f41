use Rattle.dnsv_mending.proofs.Reasons.{free_signed, free_trusted}
use Rattle.dnsv_mending.proofs.laws.what_costs_nothing_is_trusted.Goals as goal

pub returns-clause-zone : goal.returns-clause-zone
returns-clause-zone c = free_trusted

pub returns-clause-rrset : goal.returns-clause-rrset
returns-clause-rrset c = free_signed
