use Rattle.dnsv_mending.proofs.Enough.{enough, enough_for_rrset}
use Rattle.dnsv_mending.proofs.laws.what_is_told_is_enough.Goals as goal

pub returns-clause-zone : goal.returns-clause-zone
returns-clause-zone c = enough

pub returns-clause-rrset : goal.returns-clause-rrset
returns-clause-rrset c = enough_for_rrset
