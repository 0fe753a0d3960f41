-- What the answers to many questions are: each by itself, one text behind the other, and the greatest exit status; and
-- the first fault.
use Rattle.std.specs.Prelude.{◌≡◌, ◌⊎◌, ◌<◌, ◌≤◌, ℕ, Bool, List, [], ◌∷◌, Contains, Option, length, map, take}
use Rattle.std.specs.List.{flat_map}
use Rattle.dnsv_answers.specs.declared.heading.Moments.TheVariants.{At}
use Rattle.dnsv_chain.specs.Basis.{Basis}
use Rattle.dnsv_questions.specs.declared.format.Format.{Format}
use Rattle.dnsv_questions.specs.Question.{Asked, IsQuestion}
use Rattle.dnsv_files.specs.Files.{Files, IsGiven, octets_or_none}
use Rattle.dnsv_files.specs.Files.Questions.{HasQuestions, IsFaultOfQuestions}
use Rattle.dnsv_files.specs.Status.{status_code}
use Rattle.dnsv_work.specs.InOrder.{AreInOrder, basis_in}
use Rattle.dnsv_asking.specs.Checking.{IsJudged}
use Rattle.dnsv_files.specs.declared.status.Fault.{Fault}
use Rattle.dnsv_files.specs.declared.status.InputFile.{InputFile}
use Rattle.dnsv_files.specs.declared.status.InputFile.TheVariants.{Questions}
use Rattle.dnsv_files.specs.declared.status.Status.{Status}
use Rattle.dnsv_files.specs.declared.status.Status.TheVariants.{Done}
use Rattle.dnsv_work.specs.Faults.{IsFirstFaultOfFiles}
use Rattle.dnsv_work.specs.Judged.{IsRefusedOne}
use Rattle.dnsv_work.specs.Reached.{IsReachedOfFiles}

-- ---- one question

-- the end and the text that the question has alone, or how it is refused
abbrev pub IsAnswer : Format → Bool → Option (List ℕ) → Basis → Asked → Status → List ℕ → Type 0
IsAnswer format why numbers basis asked end text =
    (IsQuestion asked.name asked.rtype × IsJudged format why numbers basis asked.name asked.rtype end text)
    ⊎ IsRefusedOne format why basis asked end text

-- ---- many

pub record Answered : Type 0 where
  pub end : Status
  pub text : List ℕ

abbrev pub EachAnswered : Format → Bool → Option (List ℕ) → Basis → List Asked → List Answered → Type 0
EachAnswered format why numbers basis [] [] = Unit {0}
EachAnswered format why numbers basis [] (answer ∷ answers) = ⊥
EachAnswered format why numbers basis (asked ∷ others) [] = ⊥
EachAnswered format why numbers basis (asked ∷ others) (answer ∷ answers) =
    IsAnswer format why numbers basis asked answer.end answer.text × EachAnswered format why numbers basis others answers

-- it is one of these ends, or the first of all where there is none, and none of these has a greater exit status
pub record IsGreatest (ends : List Status) (end : Status) : Type 0 where
  pub one : (end ≡ Done) ⊎ Contains ends end
  pub greatest : (other : Status) → Contains ends other → status_code other ≤ status_code end

-- the end and the text of all: the greatest of their ends, and their texts one behind the other, in their order
pub record AreAnswers (format : Format) (why : Bool) (numbers : Option (List ℕ)) (basis : Basis) (asked : List Asked) (end : Status) (text : List ℕ) : Type 0 where
  pub answers : List Answered
  pub each : EachAnswered format why numbers basis asked answers
  pub ends : IsGreatest (map (λ answer. answer.end) answers) end
  pub joined : text ≡ flat_map (λ answer. answer.text) answers

-- ---- by files

-- there are questions, the other files are in order, and these are the end and the text of all of them
pub record AreAnswered (format : Format) (why : Bool) (moment : ℕ) (files : Files) (end : Status) (text : List ℕ) : Type 0 where
  pub asked : List Asked
  pub has : HasQuestions (octets_or_none files.questions) asked
  pub given : AreInOrder (At moment) files
  pub answers : AreAnswers format why given.numbers (basis_in given) asked end text

-- the text is that of some of the questions, from the first on
pub record AreFirstAnswered (format : Format) (why : Bool) (moment : ℕ) (files : Files) (text : List ℕ) : Type 0 where
  pub asked : List Asked
  pub has : HasQuestions (octets_or_none files.questions) asked
  pub given : AreInOrder (At moment) files
  pub count : ℕ
  pub end : Status
  pub answers : AreAnswers format why given.numbers (basis_in given) (take count asked) end text

-- the same of fewer questions than there are
pub record AreFewerAnswered (format : Format) (why : Bool) (moment : ℕ) (files : Files) (text : List ℕ) : Type 0 where
  pub firsts : AreFirstAnswered format why moment files text
  pub fewer : firsts.count < length firsts.asked

-- the first fault is in the questions, and then in the files that they are judged by
abbrev pub IsFirstFaultOfEach : ℕ → Files → Fault → Type 0
IsFirstFaultOfEach moment files fault =
    IsFaultOfQuestions (octets_or_none files.questions) fault
    ⊎ (((asked : List Asked) × HasQuestions (octets_or_none files.questions) asked)
    × IsFirstFaultOfFiles (At moment) files fault)

-- the questions are read first, and then the files that they are judged by
abbrev pub IsReachedByEach : ℕ → Files → InputFile → Type 0
IsReachedByEach moment files Questions = IsGiven files.questions
IsReachedByEach moment files file =
    ((asked : List Asked) × HasQuestions (octets_or_none files.questions) asked) × IsReachedOfFiles (At moment) files file
