use Rattle.dnsv_zones.proofs.lemmas.chains.NsecLemmas.{absent_no_node}
use Rattle.dnsv_zones.proofs.nsec.a_name_absent_by_nsec_is_no_node.Goals as goal

pub returns : goal.returns
returns c = λ zone nsec name there. absent_no_node zone nsec there name
