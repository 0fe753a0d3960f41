use Rattle.dnsv_mending.proofs.EachWay.{rrset_way, zone_way}
use Rattle.dnsv_mending.proofs.laws.what_is_kept_is_a_single_way.Goals as goal

pub returns-clause-zone : goal.returns-clause-zone
returns-clause-zone c = zone_way

pub returns-clause-rrset : goal.returns-clause-rrset
returns-clause-rrset c = rrset_way
