use Rattle.std.proofs.Common.{◌≡◌, drop, flat_map, map}
use Rattle.std.specs.Option.{option_map}
use Rattle.dnsv_mending.specs.Level.{seen_level}
use Rattle.dnsv_mending.specs.Mend.{cheapest_from, seen}
use Rattle.dnsv_mending.specs.Within.{own_ways}
use Rattle.dnsv_mending.proofs.within.offer_all.Given as goal

-- those that are left, after what was offered
abbrev pub invariant-loop-signature : goal.invariant-loop-signature
invariant-loop-signature l = cheapest_from (option_map seen l.best) (flat_map (own_ways (map seen_level l.levels)) (drop l.signature-index l.signatures))
    ≡ cheapest_from (option_map seen l.fn.best) (flat_map (own_ways (map seen_level l.levels)) l.signatures)
