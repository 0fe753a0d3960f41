-- Questions on the command line: which name and type they ask for, and what they are refused for.
use Rattle.std.specs.Prelude.{◌≡◌, ◌⊎◌, ℕ, List}
use Rattle.dnsv_names.specs.Name.{Labels, IsName}
use Rattle.dnsv_names.specs.Text.{FirstFault, IsTextOf}
use Rattle.dnsv_names.specs.declared.error.NameError.{NameError}
use Rattle.dnsv_questions.specs.Question.{IsQuestion}
use Rattle.dnsv_verdict.specs.declared.error.VerdictError.TheVariants.{BadQuestion}
use Rattle.dnsv_files.specs.declared.status.Place.{Place}
use Rattle.dnsv_files.specs.declared.status.Refusal.{Refusal}
use Rattle.dnsv_files.specs.declared.status.Refusal.TheVariants as refusal
use Rattle.dnsv_files.specs.Files.Capture.{IsNowhere}

-- the text spells the name
pub record Spells (text : List ℕ) (name : Labels) : Type 0 where
  pub is_name : IsName name
  pub spelling : IsTextOf text name

-- the name has a fault, which is the first from the left
abbrev pub IsNameRefused : List ℕ → Refusal → Place → Type 0
IsNameRefused text why place =
    (error : NameError) × FirstFault text error × (why ≡ refusal.Name error) × IsNowhere place

-- the type can't be asked for at the name
abbrev pub IsTypeRefused : Labels → ℕ → Refusal → Place → Type 0
IsTypeRefused name rtype why place = (¬ IsQuestion name rtype) × (why ≡ refusal.Question BadQuestion) × IsNowhere place

-- the question is refused: its name, or else its type
abbrev pub IsQuestionRefused : List ℕ → ℕ → Refusal → Place → Type 0
IsQuestionRefused text rtype why place =
    IsNameRefused text why place ⊎ ((name : Labels) × Spells text name × IsTypeRefused name rtype why place)
