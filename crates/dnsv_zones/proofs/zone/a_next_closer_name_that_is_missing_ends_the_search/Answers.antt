use Rattle.dnsv_zones.proofs.lemmas.zones.ZoneLemmas.{closest, name_no_node}
use Rattle.dnsv_zones.proofs.zone.a_next_closer_name_that_is_missing_ends_the_search.Goals as goal

pub returns-clause-encloser : goal.returns-clause-encloser
returns-clause-encloser c = closest

pub returns-clause-name : goal.returns-clause-name
returns-clause-name c = name_no_node
