use Rattle.std.proofs.Common.{◌≡◌, map, take}
use Rattle.std.specs.List.{AllByRecursion, enumerate_from}
use Rattle.dnsv_zone_faults.specs.Dnskeys.DnskeySearch.{IsOwn, basis_in}
use Rattle.dnsv_zone_faults.proofs.lemmas.zones.OwnLemmas.{seen_own}
use Rattle.dnsv_zone_faults.proofs.zone.dnskeys.own.own_signatures.Given as goal

-- the signatures so far
abbrev pub invariant-loop-place : goal.invariant-loop-place
invariant-loop-place l =
    (map seen_own l.own.items ≡ enumerate_from 1 (take l.place l.rrsig-items)) × AllByRecursion (IsOwn (basis_in l.keyed) l.rrset l.keys) l.own.items
