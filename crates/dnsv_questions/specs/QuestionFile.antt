-- Files of questions: what a text asks, and what it is refused for.
use Rattle.std.specs.Prelude.{◌≡◌, ◌<◌, ◌≤◌, ℕ, List, [], ◌∷◌, length}
use Rattle.std.specs.Fmt.{decimal}
use Rattle.dnsv_names.specs.Lines.LineFile.{BeginsWithValue, HasFirstFault, SaysValues}
use Rattle.dnsv_names.specs.Lines.{AreFields, NumberedLine}
use Rattle.dnsv_names.specs.Name.{IsName}
use Rattle.dnsv_names.specs.Text.{IsTextOf}
use Rattle.dnsv_questions.specs.declared.error.QuestionsError.{QuestionsError}
use Rattle.dnsv_questions.specs.declared.error.QuestionsError.TheVariants.{OutOfMemory, Syntax, TooMany}
use Rattle.dnsv_questions.specs.Question.{Asked}

-- A line has two fields, a name as text (RFC 1035 5.1), and the decimal digits of a type's number (RFC 1035 3.2.2). Any
-- type does, also one that can't be asked at the name.
pub record IsAskedLine (line : List ℕ) (asked : Asked) : Type 0 where
  pub text : List ℕ
  pub digits : List ℕ
  pub fields : AreFields line (text ∷ digits ∷ [])
  pub is_name : IsName asked.name
  pub name : IsTextOf text asked.name
  pub rtype : digits ≡ decimal asked.rtype
  pub fits : asked.rtype < 65536

-- a file has at most 1,048,576 questions
abbrev pub AreFew : List Asked → Type 0
AreFew questions = length questions ≤ 1048576

-- the questions of a text file, in the order of its lines
abbrev pub AreQuestionsOf : List ℕ → List Asked → Type 0
AreQuestionsOf text questions = SaysValues IsAskedLine AreFew text questions

-- the first line of a text file is a question, so that memory is needed
abbrev pub BeginsWithQuestion : List ℕ → Type 0
BeginsWithQuestion text = BeginsWithValue IsAskedLine text

-- what is wrong with a line behind questions
abbrev pub IsFaultOfLine : QuestionsError → NumberedLine → List Asked → Type 0
IsFaultOfLine OutOfMemory line before = ⊥
-- it is no question
IsFaultOfLine (Syntax number) line before =
    (number ≡ line.number) × ((asked : Asked) → IsAskedLine line.octets asked → ⊥)
-- it is one, behind 1,048,576
IsFaultOfLine (TooMany number) line before =
    (number ≡ line.number) × ((asked : Asked) × IsAskedLine line.octets asked) × (length before ≡ 1048576)

-- the first fault of a text file
abbrev pub IsFaultOf : List ℕ → QuestionsError → Type 0
IsFaultOf text fault = HasFirstFault IsAskedLine AreFew IsFaultOfLine text fault
