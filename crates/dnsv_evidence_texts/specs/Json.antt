-- JSON as the program writes it: a value and a newline.
use Rattle.std.specs.Prelude.{ℕ, List, ◌++◌, codes}
use Rattle.hex.specs.Hex.{encode_lower}
use Rattle.dnsv_lines.specs.Json.{object, quoted}

-- octets in lower case hex
abbrev pub octets_json : List ℕ → List ℕ
octets_json octets = quoted (encode_lower octets)

-- what is written: one object on one line
abbrev pub object_line : List (List ℕ) → List ℕ
object_line members = object members ++ codes "\n"
