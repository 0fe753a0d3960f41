-- What a domain name is, its wire form, and when two names are equal. An octet is a number below 256.
pub mod Spelling
pub mod WireLaws
use Rattle.std.specs.Prelude.{◌≡◌, ℕ, ◌-◌, ◌<◌, ◌≤◌, Bool, nat_eq, List, [], ◌∷◌, ◌++◌, length, drop, map}
use Rattle.std.specs.Char.{to_ascii_lowercase}
use Rattle.std.specs.List.{AllByRecursion}
use Rattle.std.specs.Cmp.Lexicographic.{pointwise}
use Rattle.dnsv_names.specs.Octets.{AreOctets}

-- the labels of a name as they are spelled, the leftmost first, without the empty label of the root,
-- which ends every name (RFC 1035 3.1)
abbrev pub Labels : Type 0
Labels = List (List ℕ)

-- a label has 1 to 63 octets, of any values (RFC 1035 2.3.4, RFC 2181 11)
pub record IsLabel (label : List ℕ) : Type 0 where
  pub not_empty : 0 < length label
  pub at_most_63 : length label ≤ 63
  pub octets : AreOctets label

-- the wire form: each label behind its length, and the length 0 of the root (RFC 1035 3.1)
abbrev pub wire : Labels → List ℕ
wire [] = 0 ∷ []
wire (label ∷ labels) = length label ∷ (label ++ wire labels)

-- labels are a name where their wire form has at most 255 octets (RFC 1035 2.3.4)
pub record IsName (labels : Labels) : Type 0 where
  pub each : AllByRecursion IsLabel labels
  pub at_most_255 : length (wire labels) ≤ 255

-- the name with A to Z in lower case, and every other octet as it is (RFC 4343 2 and 3)
abbrev pub lower_case : Labels → Labels
lower_case labels = map (λ label. map to_ascii_lowercase label) labels

-- two names are equal where they are the same in lower case (RFC 1035 2.3.3, RFC 4343 3)
abbrev pub SameName : Labels → Labels → Type 0
SameName a b = lower_case a ≡ lower_case b

-- the test of `SameName`
abbrev pub same_name : Labels → Labels → Bool
same_name a b = pointwise (pointwise nat_eq) (lower_case a) (lower_case b)

-- the labels of `above` end those of `name`: the two are equal, or `name` is below `above` (RFC 1034 3.1)
abbrev pub IsAtOrBelow : Labels → Labels → Type 0
IsAtOrBelow name above = (front : Labels) × SameName name (front ++ above)

-- the n rightmost labels
abbrev pub rightmost : Labels → ℕ → Labels
rightmost labels n = drop (length labels - n) labels
