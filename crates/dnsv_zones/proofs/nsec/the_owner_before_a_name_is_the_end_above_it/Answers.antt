use Rattle.dnsv_zones.proofs.lemmas.chains.NsecLemmas.{owner_is_the_end}
use Rattle.dnsv_zones.proofs.nsec.the_owner_before_a_name_is_the_end_above_it.Goals as goal

pub returns : goal.returns
returns c = λ zone nsec name cut well there. owner_is_the_end zone nsec there name cut well
