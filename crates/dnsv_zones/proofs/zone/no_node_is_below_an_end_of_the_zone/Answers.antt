use Rattle.dnsv_zones.proofs.lemmas.zones.ZoneLemmas.{node_not_below}
use Rattle.dnsv_zones.proofs.zone.no_node_is_below_an_end_of_the_zone.Goals as goal

pub returns : goal.returns
returns c = node_not_below
