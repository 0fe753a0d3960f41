-- How lines, fields, numbers and octets in base64 are read. No public clause cites this module.
use Rattle.std.specs.Prelude.{◌≡◌, ℕ, ◌==◌, ◌||◌, Bool, false, if◌then◌else◌, List, [], ◌∷◌, length, Option, Some, None}
use Rattle.base64.specs.Engines.{standard}
use Rattle.base64.specs.GeneralPurpose.{encode_of}
use Rattle.dnsv_names.specs.Octets.{AreOctets}

-- an octet more in front of the first piece
abbrev pub lengthened : ℕ → List (List ℕ) → List (List ℕ)
lengthened octet [] = (octet ∷ []) ∷ []
lengthened octet (piece ∷ pieces) = (octet ∷ piece) ∷ pieces

-- the lines of a text
abbrev pub lines_in : List ℕ → List (List ℕ)
lines_in [] = []
lines_in (octet ∷ octets) = if octet == 10 then [] ∷ lines_in octets else lengthened octet (lines_in octets)

-- what stands before, between and behind the spaces
abbrev pub pieces_in : List ℕ → List (List ℕ)
pieces_in [] = [] ∷ []
pieces_in (octet ∷ octets) = if octet == 32 then [] ∷ pieces_in octets else lengthened octet (pieces_in octets)

-- the pieces that are left, where no space stands behind the last
abbrev pub pieces_left : Option (List ℕ) → List (List ℕ)
pieces_left None = []
pieces_left (Some text) = pieces_in text

-- the text begins with `+`, or with a `0` that isn't all of it
abbrev pub is_marked : List ℕ → Bool
is_marked [] = false
is_marked (octet ∷ []) = octet == 43
is_marked (octet ∷ next ∷ octets) = octet == 43 || octet == 48

-- the field is so many octets in base64
pub record SaysOctets (field : List ℕ) (count : ℕ) : Type 0 where
  pub octets : List ℕ
  pub are : AreOctets octets
  pub counted : length octets ≡ count
  pub coded : field ≡ encode_of standard octets
