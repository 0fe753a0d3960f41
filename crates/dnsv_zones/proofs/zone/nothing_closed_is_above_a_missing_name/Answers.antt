use Rattle.dnsv_zones.proofs.lemmas.zones.ZoneLemmas.{nothing_closed}
use Rattle.dnsv_zones.proofs.zone.nothing_closed_is_above_a_missing_name.Goals as goal

pub returns : goal.returns
returns c = nothing_closed
