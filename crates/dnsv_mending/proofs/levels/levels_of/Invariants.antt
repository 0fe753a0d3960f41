use Rattle.std.proofs.Common.{◌≡◌, drop, map}
use Rattle.dnsv_mending.specs.Level.{seen_level}
use Rattle.dnsv_mending.specs.Zone.{levels_from, levels_of}
use Rattle.dnsv_mending.proofs.levels.levels_of.Given as goal

-- those of the zones that are left, over those so far
abbrev pub invariant-loop-zone : goal.invariant-loop-zone
invariant-loop-zone l = levels_from l.is_anchored (map seen_level l.levels.items) (drop l.zone-index l.zones) ≡ levels_of l.is_anchored l.zones
