-- How the octets of a text are read from the left. No public clause cites this module.
use Rattle.std.specs.Prelude.{◌≡◌, ◌≤◌, ◌++◌, length, ℕ, ◌+◌, ◌-◌, ◌*◌, ◌==◌, ◌&&◌, not, nat_lt, if◌then◌else◌, List, [], ◌∷◌, Option, Some, None}
use Rattle.std.specs.Char.{is_ascii_graphic, is_ascii_digit}
use Rattle.dnsv_names.specs.Name.{Labels}
use Rattle.dnsv_names.specs.Text.{SpellsLabel, IsFaultAt}
use Rattle.dnsv_names.specs.declared.error.NameError.{NameError}

abbrev pub decimal_value : ℕ → ℕ → ℕ → ℕ
decimal_value x y z = 100 * (x - 48) + 10 * (y - 48) + (z - 48)

-- the octet that three digits in front spell, and the text behind them
abbrev pub decimal_of : List ℕ → Option (ℕ × List ℕ)
decimal_of (x ∷ y ∷ z ∷ text) =
    if is_ascii_digit x && is_ascii_digit y && is_ascii_digit z && nat_lt (decimal_value x y z) 256
    then Some (decimal_value x y z, text) else None
decimal_of _ = None

-- the octet that what follows a backslash spells, and the text behind it
abbrev pub escaped_of : List ℕ → Option (ℕ × List ℕ)
escaped_of [] = None
escaped_of (c ∷ text) =
    if is_ascii_digit c then decimal_of (c ∷ text) else (if is_ascii_graphic c then Some (c, text) else None)

-- the octet that the front of a text spells, and the text behind it
abbrev pub octet_of : List ℕ → Option (ℕ × List ℕ)
octet_of [] = None
octet_of (c ∷ text) =
    if c == 92 then escaped_of text else (if is_ascii_graphic c && not (c == 46) then Some (c, text) else None)

-- the front of the text spells the label and a dot, and the rest stands behind them
abbrev pub BeginsLabel : List ℕ → List ℕ → List ℕ → Type 0
BeginsLabel text label rest = (front : List ℕ) × (text ≡ front ++ 46 ∷ rest) × SpellsLabel front label

-- the first fault of a text that begins with a label, whatever labels stand before it
pub record LabelFault (text : List ℕ) (fault : NameError) : Type 0 where
  pub front : List ℕ
  pub rest : List ℕ
  pub begun : List ℕ
  pub form : text ≡ front ++ rest
  pub at_most_63 : length begun ≤ 63
  pub octets : SpellsLabel front begun
  pub there : (whole : Labels) → IsFaultAt fault whole begun rest
