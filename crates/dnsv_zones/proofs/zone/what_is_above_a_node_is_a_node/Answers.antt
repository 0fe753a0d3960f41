use Rattle.dnsv_zones.proofs.lemmas.zones.ZoneLemmas.{node_above}
use Rattle.dnsv_zones.proofs.zone.what_is_above_a_node_is_a_node.Goals as goal

pub returns-clause-above : goal.returns-clause-above
returns-clause-above c = node_above

pub returns-clause-below : goal.returns-clause-below
returns-clause-below c = λ zone missing name none within under node. none (node_above zone name missing node under within)
