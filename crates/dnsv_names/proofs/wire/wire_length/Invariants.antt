use Rattle.std.proofs.Common.{◌-◌, ◌<◌, length}
use Rattle.dnsv_names.proofs.ReadLemmas.{Reads}
use Rattle.dnsv_names.proofs.wire.wire_length.Given as goal

-- what stands at the place decides what stands at the front
abbrev pub invariant-loop-place : goal.invariant-loop-place
invariant-loop-place l = Reads l.octets l.place × (l.place < 255)

abbrev pub decreases-loop-place : goal.decreases-loop-place
decreases-loop-place l = length l.octets - l.place
