-- What a question's answer is over the files: its verdict, why that stands, how a question without one is refused, and
-- the first fault.
use Rattle.std.specs.Prelude.{◌≡◌, ◌⊎◌, ⊤, ℕ, Bool, true, false, List, Option, Some, None}
use Rattle.dnsv_names.specs.Name.{Labels}
use Rattle.dnsv_answers.specs.declared.heading.Moments.TheVariants.{At}
use Rattle.dnsv_verdict.specs.Way.{IsRefusedFor, IsVerdictOf}
use Rattle.dnsv_verdict.specs.declared.error.VerdictError.{VerdictError}
use Rattle.dnsv_chain.specs.Basis.{Basis}
use Rattle.dnsv_verdict.specs.declared.report.Report.{Report}
use Rattle.dnsv_explain.specs.Explanation.{IsExplanationOf}
use Rattle.dnsv_lines.specs.declared.line.Line.{Line}
use Rattle.dnsv_files.specs.Files.{Files}
use Rattle.dnsv_files.specs.Status.{status_code}
use Rattle.dnsv_questions.specs.declared.format.Format.{Format}
use Rattle.dnsv_questions.specs.Question.{IsQuestion}
use Rattle.dnsv_texts.specs.Checking.{check_text}
use Rattle.dnsv_files.specs.declared.status.Fault.{Fault}
use Rattle.dnsv_files.specs.declared.status.InputFile.{InputFile}
use Rattle.dnsv_files.specs.declared.status.Status.{Status}
use Rattle.dnsv_work.specs.Faults.{IsFirstFaultOfAsked, IsFirstFaultOfFiles}
use Rattle.dnsv_work.specs.Judged.{verdict_fault, verdict_status}
use Rattle.dnsv_work.specs.Question.{Spells}
use Rattle.dnsv_work.specs.Reached.{IsReachedOfFiles}
use Rattle.dnsv_work.specs.InOrder.{AreInOrder, basis_in}

-- where it is asked why the verdict stands, the lines that explain it are told, and else none
abbrev pub IsWhy : Bool → Basis → ℕ → Report → Option (List Line) → Type 0
IsWhy false basis rtype report None = ⊤
IsWhy false basis rtype report (Some lines) = ⊥
IsWhy true basis rtype report None = ⊥
IsWhy true basis rtype report (Some lines) = IsExplanationOf basis rtype report lines

-- The end and the text are those of the question's verdict, by what it is judged by, and of why it stands, where that is
-- asked for. Where numbers are given, entries that are still to be checked are told by these alone.
pub record IsJudged (format : Format) (why : Bool) (numbers : Option (List ℕ)) (basis : Basis) (name : Labels) (rtype : ℕ) (end : Status) (text : List ℕ) : Type 0 where
  pub report : Report
  pub is_verdict : IsVerdictOf basis name rtype report.links report.last report.verdict
  pub told : Option (List Line)
  pub is_told : IsWhy why basis rtype report told
  pub ends : end ≡ verdict_status report.verdict
  pub lines : text ≡ check_text format name rtype basis.moment (status_code end) basis.rrsets report.links report.verdict told numbers

-- the files are in order, and these are the end and the text of the question by what they say
pub record IsCheck (format : Format) (why : Bool) (name : Labels) (rtype moment : ℕ) (files : Files) (end : Status) (text : List ℕ) : Type 0 where
  pub given : AreInOrder (At moment) files
  pub judged : IsJudged format why given.numbers (basis_in given) name rtype end text

-- the question is one that can be asked, and the end and the text are those of its check
abbrev pub IsAnswered : Format → Bool → List ℕ → ℕ → ℕ → Files → Status → List ℕ → Type 0
IsAnswered format why asked rtype moment files end text =
    (name : Labels) × Spells asked name × IsQuestion name rtype × IsCheck format why name rtype moment files end text

-- The files are in order, and the question is refused: a way over aliases from its name ends at one that can't be
-- followed. The refusal has no place.
pub record IsStopped (name : Labels) (rtype moment : ℕ) (files : Files) (told : Fault) : Type 0 where
  pub given : AreInOrder (At moment) files
  pub error : VerdictError
  pub refused : IsRefusedFor (basis_in given) name rtype error
  pub is : told ≡ verdict_fault error

-- the first of the files that is at fault has this fault; or none is, and an alias can't be followed
abbrev pub IsFirstFaultOfName : Labels → ℕ → ℕ → Files → Fault → Type 0
IsFirstFaultOfName name rtype moment files fault =
    IsFirstFaultOfFiles (At moment) files fault ⊎ IsStopped name rtype moment files fault

-- the question is refused, and else this is the first fault of the files and of the way from its name
abbrev pub IsFirstFaultOfCheck : List ℕ → ℕ → ℕ → Files → Fault → Type 0
IsFirstFaultOfCheck asked rtype moment files =
    IsFirstFaultOfAsked asked rtype (λ name. IsFirstFaultOfName name rtype moment files)

-- the question can be asked, and the files before this one are in order
abbrev pub IsReachedByCheck : List ℕ → ℕ → ℕ → Files → InputFile → Type 0
IsReachedByCheck asked rtype moment files file =
    ((name : Labels) × Spells asked name × IsQuestion name rtype) × IsReachedOfFiles (At moment) files file
