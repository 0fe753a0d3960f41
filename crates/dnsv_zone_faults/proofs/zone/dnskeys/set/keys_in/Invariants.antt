use Rattle.std.proofs.Common.{◌≡◌, map, take}
use Rattle.std.specs.List.{AllByRecursion}
use Rattle.dnsv_zone_faults.specs.Dnskeys.DnskeySearch.{IsKeyIn, rdata_of}
use Rattle.dnsv_zone_faults.proofs.zone.dnskeys.set.keys_in.Given as goal

-- the keys so far
abbrev pub invariant-loop-each : goal.invariant-loop-each
invariant-loop-each l =
    (map rdata_of l.keys.items ≡ map (λ each. each.rdata.now) (take l.each-index l.each-items))
    × AllByRecursion (IsKeyIn l.keyed.facts.now.rrsets l.keyed.zone.now l.rrset) l.keys.items
