use Rattle.std.proofs.Common.{map}
use Rattle.dnsv_chain.specs.Kept.{AreZonesBefore}
use Rattle.dnsv_chain.proofs.trust.keys_of_zones.Given as goal

abbrev pub invariant-loop-zone : goal.invariant-loop-zone
invariant-loop-zone l = AreZonesBefore l.keys.entries l.zone-iterator (map (λ each. (each.zone, each.keys.items)) l.zones.items)
