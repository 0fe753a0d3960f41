use Rattle.std.proofs.Common.{take}
use Rattle.dnsv_zone_faults.proofs.lemmas.GroupLemmas.{AreRecordsTo}
use Rattle.dnsv_zone_faults.proofs.zone.groups.ds.record_facts.Given as goal

-- those of the records so far
abbrev pub invariant-loop-place : goal.invariant-loop-place
invariant-loop-place l = AreRecordsTo l.keys l.number l.values (take l.place l.each-items) l.known.items
