use Rattle.std.proofs.Common.{◌≡◌, drop, flat_map, map}
use Rattle.std.specs.Option.{option_map}
use Rattle.dnsv_mending.specs.Mend.{cheapest_from, seen}
use Rattle.dnsv_mending.specs.Zone.{holder_ways}
use Rattle.dnsv_mending.proofs.levels.offer_holders.Given as goal

-- those that are left, after what was offered
abbrev pub invariant-loop-place : goal.invariant-loop-place
invariant-loop-place l = cheapest_from (option_map seen l.best) (flat_map (holder_ways (map (option_map seen) l.sets)) (drop l.place-index l.places))
    ≡ cheapest_from (option_map seen l.fn.best) (flat_map (holder_ways (map (option_map seen) l.sets)) l.places)
