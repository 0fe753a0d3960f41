-- Names above and below a name (RFC 1034 3.1), and wildcards (RFC 4592 2.1.1).
pub mod AncestorLaws
pub mod KeyLaws
pub mod Keys
pub mod TreeLaws
use Rattle.std.specs.Prelude.{◌≡◌, ℕ, Bool, false, List, [], ◌∷◌}
use Rattle.std.specs.Str.{bytes_eq}
use Rattle.dnsv_names.specs.Name.{Labels}

-- the label `*`
abbrev pub asterisk : List ℕ
asterisk = 42 ∷ []

-- the wildcard right below the name: the label `*`, and then the labels of the name
abbrev pub wildcard_of : Labels → Labels
wildcard_of labels = asterisk ∷ labels

-- the name is a wildcard: its leftmost label is `*`
abbrev pub IsWildcard : Labels → Type 0
IsWildcard name = (labels : Labels) × (name ≡ wildcard_of labels)

-- the test of `IsWildcard`
abbrev pub is_wildcard : Labels → Bool
is_wildcard [] = false
is_wildcard (label ∷ labels) = bytes_eq label asterisk
