-- The type bitmap: the one spelling of a set of record types (RFC 4034 4.1.2).
pub mod Blocks
use Rattle.std.specs.Prelude.{◌≡◌, ℕ, ◌+◌, ◌-◌, ◌*◌, ◌/◌, ◌%◌, ◌<◌, ◌≤◌, ◌==◌, ◌⊎◌, Bool, IsTrue, List, [], ◌∷◌, length, slice_index, ⊤}
use Rattle.std.specs.Int.{bit_at}
use Rattle.std.specs.List.{AllByRecursion, flat_map}
use Rattle.std.specs.Ordering.{nat_cmp}
use Rattle.std.specs.FinSet as set
use Rattle.dnsv_records.specs.declared.error.Field.{Field}
use Rattle.dnsv_records.specs.declared.error.Field.TheVariants.{Bitmap as BitmapField}

-- a set of record types, by their numbers
abbrev pub Types : Type 0
Types = set.FinSet nat_cmp

-- a block has the number of its window, the high octet of the window's types, and the bits of their low octets
pub record Block : Type 0 where
  pub window : ℕ
  pub bits : List ℕ

-- a block as octets: its window's number, how many octets of bits follow, and these
abbrev pub block_octets : Block → List ℕ
block_octets block = block.window ∷ length block.bits ∷ block.bits

-- bit b, counted from the highest bit of the first octet, is set; past the end none is
abbrev pub has_bit : List ℕ → ℕ → Bool
has_bit bits b = bit_at (slice_index bits (b / 8)) (7 - b % 8) == 1

-- type 256 * window + b is the greatest of its window in the set
pub record IsGreatest (types : Types) (window b : ℕ) : Type 0 where
  pub small : b < 256
  pub member : IsTrue (set.contains types (256 * window + b))
  pub others : (other : ℕ) → other < 256 → IsTrue (set.contains types (256 * window + other)) → other ≤ b

-- the block is that of its window in the set: its bits are the members, in no more octets than the greatest needs
pub record IsBlockOf (types : Types) (block : Block) : Type 0 where
  pub number : block.window < 256
  pub octets : AllByRecursion (λ octet. octet < 256) block.bits
  pub members : (b : ℕ) → b < 256 → set.contains types (256 * block.window + b) ≡ has_bit block.bits b
  pub greatest : ℕ
  pub is_greatest : IsGreatest types block.window greatest
  pub least_length : length block.bits ≡ greatest / 8 + 1

-- each block's window is above the one before, and the first is at least `least`
abbrev pub WindowsRise : ℕ → List Block → Type 0
WindowsRise least [] = ⊤
WindowsRise least (block ∷ blocks) = (least ≤ block.window) × WindowsRise (block.window + 1) blocks

-- a window has a block
abbrev pub HasWindow : List Block → ℕ → Type 0
HasWindow [] window = ⊥
HasWindow (block ∷ blocks) window = (block.window ≡ window) ⊎ HasWindow blocks window

-- the octets spell the set: they are the blocks of just those windows that have members, the windows rising
pub record Bitmap (octets : List ℕ) (types : Types) : Type 0 where
  pub blocks : List Block
  pub written : octets ≡ flat_map block_octets blocks
  pub rising : WindowsRise 0 blocks
  pub each : AllByRecursion (IsBlockOf types) blocks
  pub all : (t : ℕ) → IsTrue (set.contains types t) → HasWindow blocks (t / 256)

-- the octets spell some set
abbrev pub IsBitmap : List ℕ → Type 0
IsBitmap octets = (types : Types) × Bitmap octets types

-- the bitmap is at fault where the octets spell no set
abbrev pub BitmapFault : List ℕ → Field → Type 0
BitmapFault octets BitmapField = ¬ IsBitmap octets
BitmapFault octets _ = ⊥
