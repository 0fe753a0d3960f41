use Rattle.std.proofs.Common.{◌≡◌, ℕ, ◌-◌, length, drop}
use Rattle.dnsv_records.specs.Bitmap.Blocks.{AreBlocks, blocks_of, bits_of}
use Rattle.dnsv_records.proofs.bitmap.blocks.window_bits.Given as goal

-- the window's bits are those that the blocks from here on hold
abbrev pub invariant-loop-place : goal.invariant-loop-place
invariant-loop-place l =
    (least : ℕ) × AreBlocks least (drop l.place l.octets) × (bits_of (blocks_of (drop l.place l.octets)) l.window ≡ bits_of (blocks_of l.octets) l.window)

abbrev pub decreases-loop-place : goal.decreases-loop-place
decreases-loop-place l = length l.octets - l.place
