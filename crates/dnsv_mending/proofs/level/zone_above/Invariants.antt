use Rattle.std.proofs.Common.{◌≡◌, drop, map}
use Rattle.std.specs.Option.{option_map}
use Rattle.dnsv_mending.specs.Level.{above_from, seen_level, zone_above}
use Rattle.dnsv_mending.specs.Mend.{seen}
use Rattle.dnsv_mending.proofs.level.zone_above.Given as goal

-- the last one that is left, or else that so far
abbrev pub invariant-loop-level : goal.invariant-loop-level
invariant-loop-level l = above_from (option_map (λ m. seen m.now) l.above) (map seen_level (drop l.level-index l.levels)) ≡ zone_above (map seen_level l.levels)
