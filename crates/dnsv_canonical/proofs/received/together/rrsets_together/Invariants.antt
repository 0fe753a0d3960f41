use Rattle.std.proofs.Common.{◌-◌, length, take}
use Rattle.dnsv_canonical.proofs.GroupLemmas.RunLemmas.{IsReadTo}
use Rattle.dnsv_canonical.proofs.received.together.rrsets_together.Given as goal

abbrev pub invariant-loop-place : goal.invariant-loop-place
invariant-loop-place l = IsReadTo l.message l.section (take l.place l.records) l.rrsets.items l.seen

abbrev pub decreases-loop-place : goal.decreases-loop-place
decreases-loop-place l = length l.records - l.place
