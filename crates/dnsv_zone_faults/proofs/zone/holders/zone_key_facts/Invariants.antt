use Rattle.dnsv_zone_faults.specs.Zones.HolderSearch.{AreHoldersOfEach}
use Rattle.dnsv_zone_faults.proofs.zone.holders.zone_key_facts.Given as goal

-- those so far
abbrev pub invariant-loop-place : goal.invariant-loop-place
invariant-loop-place l = AreHoldersOfEach l.dnskeys l.place l.keys.items
