-- The text of a salt.
use Rattle.std.specs.Prelude.{ℕ, ◌/◌, ◌%◌, false, List, [], ◌∷◌, codes}
use Rattle.std.specs.Fmt.{digit_glyph}
use Rattle.std.specs.List.{flat_map}

-- an octet as two digits of lower case hex
abbrev pub octet_text : ℕ → List ℕ
octet_text octet = digit_glyph false (octet / 16) ∷ digit_glyph false (octet % 16) ∷ []

-- its octets, and `-` where there are none (RFC 5155 3.3)
abbrev pub salt_text : List ℕ → List ℕ
salt_text [] = codes "-"
salt_text (octet ∷ octets) = flat_map octet_text (octet ∷ octets)
