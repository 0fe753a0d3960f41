use Rattle.std.proofs.Common.{◌≡◌, drop, flat_map, map}
use Rattle.std.specs.Option.{option_map}
use Rattle.dnsv_mending.specs.Mend.{cheapest_from, seen}
use Rattle.dnsv_mending.specs.Zone.{kept_ways}
use Rattle.dnsv_mending.proofs.zone.offer_each.Given as goal

-- those that are left, after what was offered
abbrev pub invariant-loop-each : goal.invariant-loop-each
invariant-loop-each l = cheapest_from (option_map seen l.best) (flat_map (kept_ways) (map (option_map seen) (drop l.each-index l.kept)))
    ≡ cheapest_from (option_map seen l.fn.best) (flat_map (kept_ways) (map (option_map seen) l.kept))
