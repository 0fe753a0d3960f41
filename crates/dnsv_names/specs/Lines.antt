-- The lines of a text file, their fields, and the text of a number. A text is octets of any values: 10 ends
-- a line, 32 parts fields, and 35 is `#`.
pub mod Base64Field
pub mod LineFile
pub mod LineFileLaws
pub mod LineLaws
pub mod LineReading
use Rattle.std.specs.Prelude.{◌≡◌, ◌≢◌, ℕ, ◌==◌, Bool, true, not, List, [], ◌∷◌, ◌++◌, filter, map}
use Rattle.std.specs.List.{AllByRecursion, enumerate_from, flat_map, join_with_byte}

-- the octet stands nowhere in the text
abbrev pub Lacks : ℕ → List ℕ → Type 0
Lacks octet text = AllByRecursion (λ each. each ≢ octet) text

-- what stands behind the last newline of a text is a line where it has octets
abbrev pub last_line : List ℕ → List (List ℕ)
last_line [] = []
last_line (octet ∷ octets) = (octet ∷ octets) ∷ []

-- The lines of a text: some that end with a newline each, and what stands behind the last of these. No line
-- has a newline in it.
pub record AreLines (text : List ℕ) (lines : List (List ℕ)) : Type 0 where
  pub ended : List (List ℕ)
  pub behind : List ℕ
  pub each : AllByRecursion (Lacks 10) ended
  pub last : Lacks 10 behind
  pub octets : text ≡ flat_map (λ line. line ++ 10 ∷ []) ended ++ behind
  pub all : lines ≡ ended ++ last_line behind

-- a line and its number in the text, the first one's being 1
pub record NumberedLine : Type 0 where
  pub number : ℕ
  pub octets : List ℕ

abbrev pub numbered_from : ℕ → List (List ℕ) → List NumberedLine
numbered_from n lines = map (λ e. record { number = e.0; octets = e.1 }) (enumerate_from n lines)

-- a line that is empty or begins with `#` is passed over
abbrev pub is_passed_over : List ℕ → Bool
is_passed_over [] = true
is_passed_over (octet ∷ octets) = octet == 35

-- the lines that are not passed over, with the numbers that they have among all
abbrev pub kept_from : ℕ → List (List ℕ) → List NumberedLine
kept_from n lines = filter (λ line. not (is_passed_over line.octets)) (numbered_from n lines)

-- what a text file says: its lines in order, without those that are passed over, which are counted too
pub record HasLines (text : List ℕ) (kept : List NumberedLine) : Type 0 where
  pub lines : List (List ℕ)
  pub all : AreLines text lines
  pub numbered : kept ≡ kept_from 1 lines

-- a field has at least one octet and no space
pub record IsField (field : List ℕ) : Type 0 where
  pub some : field ≢ []
  pub no_space : Lacks 32 field

-- The fields of a line: exactly one space stands between two of them. No other octet parts fields, so that a
-- tab or a carriage return is part of one.
pub record AreFields (line : List ℕ) (fields : List (List ℕ)) : Type 0 where
  pub each : AllByRecursion IsField fields
  pub parted : line ≡ join_with_byte 32 fields
