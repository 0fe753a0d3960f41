-- The canonical order of names (RFC 4034 6.1).
pub mod ByWire
pub mod ByWireLaws
pub mod Ends
pub mod OrderLaws
use Rattle.std.specs.Prelude.{◌≡◌, ℕ, List, reverse}
use Rattle.std.specs.declared.cmp.Ordering.{Ordering}
use Rattle.std.specs.declared.cmp.Ordering.TheVariants.{Less}
use Rattle.std.specs.Cmp.Lexicographic.{slice_cmp}
use Rattle.dnsv_names.specs.Octets.{octets_cmp}
use Rattle.dnsv_names.specs.Name.{Labels, lower_case, SameName, IsAtOrBelow}

-- labels as strings of unsigned octets
abbrev pub label_cmp : List ℕ → List ℕ → Ordering
label_cmp a b = octets_cmp a b

-- the labels in lower case, the rightmost first
abbrev pub from_the_right : Labels → Labels
from_the_right labels = reverse (lower_case labels)

-- From the rightmost label on: where the first labels differ they decide, else the rests decide, and the
-- root is before any other name.
abbrev pub canonical_cmp : Labels → Labels → Ordering
canonical_cmp a b = slice_cmp label_cmp (from_the_right a) (from_the_right b)

-- a comes before b in canonical order
abbrev pub IsBefore : Labels → Labels → Type 0
IsBefore a b = canonical_cmp a b ≡ Less

-- the name is below `above`, and isn't `above` itself
abbrev pub IsBelow : Labels → Labels → Type 0
IsBelow name above = IsAtOrBelow name above × ¬ SameName name above
