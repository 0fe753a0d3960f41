-- An order of names to search by, which costs less than the canonical one: by the length of the wire form, and then by
-- its octets in lower case. No RFC has it; it is total, and ties just the names that are equal.
use Rattle.std.specs.Prelude.{ℕ, List, ◌∷◌, length}
use Rattle.std.specs.declared.cmp.Ordering.{Ordering}
use Rattle.dnsv_names.specs.Name.{Labels, wire, lower_case}
use Rattle.dnsv_names.specs.Octets.{octets_cmp}

-- what names are searched by
abbrev pub search_octets : Labels → List ℕ
search_octets name = length (wire name) ∷ wire (lower_case name)

abbrev pub search_cmp : Labels → Labels → Ordering
search_cmp a b = octets_cmp (search_octets a) (search_octets b)
