use Rattle.std.proofs.Common.{map, take}
use Rattle.dnsv_zone_faults.specs.Dnskeys.{AreHeldKeys}
use Rattle.dnsv_zone_faults.specs.Dnskeys.DnskeySearch.{basis_of_set, rdata_of}
use Rattle.dnsv_zone_faults.proofs.zone.dnskeys.held.held_keys.Given as goal

-- those of the keys so far
abbrev pub invariant-loop-place : goal.invariant-loop-place
invariant-loop-place l =
    AreHeldKeys (basis_of_set l.set) l.set.keyed.now.zone.now l.set.number l.set.rrset.now 1 (map rdata_of (take l.place l.placed-items)) l.held.items
