-- How a `TypeBitmap` keeps its set: as the octets that spell it. No public clause cites this module.
use Rattle.std.specs.Prelude.{◌≡◌, ◌≢◌, ℕ, zero, suc, ◌-◌, ◌+◌, ◌/◌, ◌%◌, ◌<◌, ◌≤◌, ◌==◌, if◌then◌else◌, Bool, List, [], ◌∷◌, ◌++◌, length, take, slice_index}
use Rattle.std.specs.List.{AllByRecursion, flat_map}
use Rattle.std.specs.FinSet as set
use Rattle.dnsv_records.specs.Bitmap.{Types, Block, block_octets, has_bit, WindowsRise}

-- the blocks that the octets hold after the first `skipped` of them
abbrev pub blocks_after : ℕ → List ℕ → List Block
blocks_after skipped [] = []
blocks_after (suc skipped) (octet ∷ octets) = blocks_after skipped octets
blocks_after zero (window ∷ []) = []
blocks_after zero (window ∷ count ∷ octets) =
    record { window = window; bits = take count octets } ∷ blocks_after count octets

abbrev pub blocks_of : List ℕ → List Block
blocks_of octets = blocks_after 0 octets

-- the bits of a window's block, none where it has no block
abbrev pub bits_of : List Block → ℕ → List ℕ
bits_of [] window = []
bits_of (block ∷ blocks) window = if block.window == window then block.bits else bits_of blocks window

-- the type's bit is set in the block of its window
abbrev pub has_type : List Block → ℕ → Bool
has_type blocks t = has_bit (bits_of blocks (t / 256)) (t % 256)

-- the types below n that pass the test
unfoldable pub types_below : ℕ → (ℕ → Bool) → Types
types_below zero test = set.empty
types_below (suc n) test = if test n then set.insert (types_below n test) n else types_below n test

-- the set that the octets spell
unfoldable pub types_of : List ℕ → Types
types_of octets = types_below 65536 (has_type (blocks_of octets))

-- what a block is, whatever its set
pub record IsGoodBlock (block : Block) : Type 0 where
  pub number : block.window < 256
  pub octets : AllByRecursion (λ octet. octet < 256) block.bits
  pub some : 0 < length block.bits
  pub few : length block.bits ≤ 32
  pub last : slice_index block.bits (length block.bits - 1) ≢ 0

-- the octets are blocks with rising windows, the first at least `least`
pub record AreBlocks (least : ℕ) (octets : List ℕ) : Type 0 where
  pub written : octets ≡ flat_map block_octets (blocks_of octets)
  pub rising : WindowsRise least (blocks_of octets)
  pub each : AllByRecursion IsGoodBlock (blocks_of octets)

-- a good block stands at the front
pub record BlockAtFront (octets : List ℕ) (least size : ℕ) : Type 0 where
  pub block : Block
  pub good : IsGoodBlock block
  pub rises : least ≤ block.window
  pub whole : size ≡ 2 + length block.bits
  pub rest : List ℕ
  pub written : octets ≡ block_octets block ++ rest
