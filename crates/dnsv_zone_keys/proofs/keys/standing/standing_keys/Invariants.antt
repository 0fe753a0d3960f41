use Rattle.std.proofs.Common.{map, take}
use Rattle.std.specs.List.{AllByRecursion}
use Rattle.dnsv_zone_keys.specs.Keys.{AreStanding}
use Rattle.dnsv_zone_keys.specs.Keys.ZoneSearch.{IsRead}
use Rattle.dnsv_zone_keys.proofs.keys.standing.standing_keys.Given as goal

-- the records of the RRsets so far
abbrev pub invariant-loop-number : goal.invariant-loop-number
invariant-loop-number l =
    AreStanding l.capture.rrsets (take l.number-index l.number-items) (map (λ each. each.rdata.now) l.standing.items)
    × AllByRecursion IsRead l.standing.items
