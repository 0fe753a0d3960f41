-- The text of `list` without `--all`: what a verifier still has to check.
use Rattle.std.specs.Prelude.{ℕ, List, [], ◌∷◌, ◌++◌, codes, map}
use Rattle.std.specs.Fmt.{decimal}
use Rattle.std.specs.List.{flat_map}
use Rattle.dnsv_verifier.specs.declared.entry.Entry.{Entry}
use Rattle.dnsv_answers.specs.declared.heading.Moments.{Moments}
use Rattle.dnsv_questions.specs.declared.format.Format.{Format}
use Rattle.dnsv_questions.specs.declared.format.Format.TheVariants.{Json, Lines}
use Rattle.dnsv_evidence_texts.specs.Hex.{hex_text}
use Rattle.dnsv_lines.specs.Json.{array, member, object, quoted}
use Rattle.dnsv_evidence_texts.specs.Json.{object_line, octets_json}
use Rattle.dnsv_evidence_texts.specs.Moments.{moments_members}

-- a line: the algorithm, the key, the signed data and the signature
abbrev pub todo_line : Entry → List ℕ
todo_line entry =
    codes "todo " ++ decimal entry.algorithm.0 ++ codes " " ++ hex_text entry.key
    ++ codes " " ++ hex_text entry.signed_data ++ codes " " ++ hex_text entry.signature ++ codes "\n"

-- the object of an entry
abbrev pub todo_json : Entry → List ℕ
todo_json entry = object (member (codes "algorithm") (decimal entry.algorithm.0) ∷ member (codes "key") (octets_json entry.key)
    ∷ member (codes "data") (octets_json entry.signed_data) ∷ member (codes "signature") (octets_json entry.signature) ∷ [])

-- what is still to be checked at the moment, or at the moments of the range: lines, or JSON
abbrev pub todo_text : Format → Moments → List Entry → List ℕ
todo_text Lines moments entries = flat_map todo_line entries
todo_text Json moments entries = object_line (member (codes "command") (quoted (codes "list"))
    ∷ moments_members moments ++ member (codes "todo") (array (map todo_json entries)) ∷ [])
