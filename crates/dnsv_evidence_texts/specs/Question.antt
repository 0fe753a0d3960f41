-- What begins the texts about a question.
use Rattle.std.specs.Prelude.{ℕ, Bool, List, [], ◌∷◌, codes}
use Rattle.std.specs.Fmt.{decimal}
use Rattle.dnsv_names.specs.Name.{Labels, lower_case}
use Rattle.dnsv_names.specs.Text.{text_of}
use Rattle.dnsv_lines.specs.Json.{member, name_json, quoted}
use Rattle.dnsv_questions.specs.Subcommand.{question_word}

-- names in lower case
abbrev pub lower_text : Labels → List ℕ
lower_text name = text_of (lower_case name)

-- the members for the question, and for the moment that the verdict speaks of
abbrev pub question_members : Bool → Labels → ℕ → ℕ → List (List ℕ)
question_members why name rtype moment =
    member (codes "command") (quoted (question_word why)) ∷ member (codes "name") (name_json name)
    ∷ member (codes "type") (decimal rtype) ∷ member (codes "moment") (decimal moment) ∷ []
