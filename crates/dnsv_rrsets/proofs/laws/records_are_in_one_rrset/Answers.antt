use Rattle.dnsv_rrsets.proofs.AppearanceLemmas.{rrset_with, rrsets_apart}
use Rattle.dnsv_rrsets.proofs.laws.records_are_in_one_rrset.Goals as goal

pub returns-clause-some : goal.returns-clause-some
returns-clause-some c = rrset_with

pub returns-clause-one : goal.returns-clause-one
returns-clause-one c = rrsets_apart
