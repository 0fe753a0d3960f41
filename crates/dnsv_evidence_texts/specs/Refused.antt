-- What is told of a question that has no verdict, where it is one of many.
use Rattle.std.specs.Prelude.{ℕ, Bool, List, [], ◌∷◌, ◌++◌, codes}
use Rattle.std.specs.Fmt.{decimal}
use Rattle.dnsv_names.specs.Name.{Labels}
use Rattle.dnsv_lines.specs.Json.{member}
use Rattle.dnsv_evidence_texts.specs.Question.{lower_text, question_members}
use Rattle.dnsv_evidence_texts.specs.Json.{object_line}
use Rattle.dnsv_questions.specs.declared.format.Format.{Format}
use Rattle.dnsv_questions.specs.declared.format.Format.TheVariants.{Json, Lines}

-- the number of the refusal, and the name and type that are asked for
abbrev pub refused_line : ℕ → Labels → ℕ → List ℕ
refused_line number name rtype =
    codes "refused " ++ decimal number ++ codes " " ++ lower_text name ++ codes " " ++ decimal rtype ++ codes "\n"

-- the members for the question, for the number of the refusal, and for the exit status
abbrev pub refused_members : ℕ → Bool → Labels → ℕ → ℕ → ℕ → List (List ℕ)
refused_members number why name rtype moment status =
    question_members why name rtype moment
    ++ member (codes "refused") (decimal number) ∷ member (codes "status") (decimal status) ∷ []

-- a line, or an object of JSON: why says whether it was asked why the verdict stands
abbrev pub refused_text : Format → ℕ → Bool → Labels → ℕ → ℕ → ℕ → List ℕ
refused_text Lines number why name rtype moment status = refused_line number name rtype
refused_text Json number why name rtype moment status =
    object_line (refused_members number why name rtype moment status)
