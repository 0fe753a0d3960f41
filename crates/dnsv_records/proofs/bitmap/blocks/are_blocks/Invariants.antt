use Rattle.std.proofs.Common.{◌-◌, length}
use Rattle.dnsv_records.proofs.BlockLemmas.{Walks}
use Rattle.dnsv_records.proofs.bitmap.blocks.are_blocks.Given as goal

abbrev pub invariant-loop-place : goal.invariant-loop-place
invariant-loop-place l = Walks l.octets l.place l.least

abbrev pub decreases-loop-place : goal.decreases-loop-place
decreases-loop-place l = length l.octets - l.place
