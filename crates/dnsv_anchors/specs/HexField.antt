-- Octets as a field of a text file.
use Rattle.std.specs.Prelude.{ℕ, ◌==◌, if◌then◌else◌, List, [], ◌∷◌, ◌++◌, Option, Some, None, Ok, ◌≡◌}
use Rattle.std.specs.Result.{result_ok}
use Rattle.hex.specs.Hex.{decode_of}

-- What a field of hex digits says: no octets by `-`, which is 45, and else at least one octet, two digits in
-- either case for each.
abbrev pub hex_value : List ℕ → Option (List ℕ)
hex_value [] = None
hex_value (digit ∷ []) = if digit == 45 then Some [] else None
hex_value (first ∷ second ∷ digits) = result_ok (decode_of (first ∷ second ∷ digits))

-- the octets that the field says are those of the digits
pub record AreDigitsOf (field digits : List ℕ) : Type 0 where
  pub octets : List ℕ
  pub decoded : decode_of digits ≡ Ok octets
  pub value : hex_value field ≡ Some octets

-- new is old with the octets of the digits behind it
pub record AddsDecoded (digits old new : List ℕ) : Type 0 where
  pub octets : List ℕ
  pub decoded : decode_of digits ≡ Ok octets
  pub behind : new ≡ old ++ octets
