use Rattle.dnsv_zones.proofs.lemmas.chains.NsecLemmas.{told_node}
use Rattle.dnsv_zones.proofs.nsec.nsec_records_show_nodes.Goals as goal

pub returns : goal.returns
returns c = λ zone nsec name there. told_node zone nsec there name
