-- What is explained of a verdict: what fails, where nothing is proved, and then what holds.
use Rattle.std.specs.Prelude.{◌≡◌, ℕ, List, [], ◌++◌}
use Rattle.dnsv_names.specs.Name.{Labels}
use Rattle.dnsv_verifier.specs.Table.{IsTableOf, TableContents}
use Rattle.dnsv_chain.specs.Basis.{Basis, basis_of}
use Rattle.dnsv_verdict.specs.declared.link.Link.{Link}
use Rattle.dnsv_verdict.specs.declared.report.Report.{Report}
use Rattle.dnsv_verdict.specs.declared.verdict.Verdict.{Verdict}
use Rattle.dnsv_verdict.specs.declared.verdict.Verdict.TheVariants.{Bogus, Indeterminate}
use Rattle.dnsv_reasons.specs.Failures.{AreFailures, Asking}
use Rattle.dnsv_derivations.specs.Explained.{Explained, Setting, setting_in}
use Rattle.dnsv_derivations.specs.Saying.{AreBoth}
use Rattle.dnsv_keys_in_question.specs.KeyLines.{AreLinesOfKeysAsked}
use Rattle.dnsv_lines.specs.declared.line.Line.{Line}
use Rattle.dnsv_holding.specs.Holding.{IsHoldingTold}

-- ---- what fails

-- the question of which it is told what fails
abbrev pub asking_in : Setting → Labels → ℕ → Asking
asking_in setting name t = record {
  basis = basis_of setting.rrsets setting.anchors setting.moment setting.meaning;
  name = name;
  rtype = t;
}

-- what fails of the question, and the keys that this is a matter of
pub record IsFailureTold (setting : Setting) (name : Labels) (t : ℕ) (before lines : List Line) : Type 0 where
  pub faults : List Line
  pub of_faults : AreFailures (asking_in setting name t) faults
  pub keys : List Line
  pub of_keys : AreLinesOfKeysAsked setting faults keys
  pub are : lines ≡ faults ++ keys

-- ---- the whole

-- the explanation of the verdict at the end of the way: where nothing is proved, what fails comes first
abbrev pub IsExplanation : Explained → ℕ → List Link → Labels → Verdict → List Line → Type 0
IsExplanation explained t links last Bogus =
    AreBoth (IsFailureTold (setting_in explained) last t) (IsHoldingTold explained t links last Bogus) []
IsExplanation explained t links last Indeterminate =
    AreBoth (IsFailureTold (setting_in explained) last t) (IsHoldingTold explained t links last Indeterminate) []
IsExplanation explained t links last verdict = IsHoldingTold explained t links last verdict []

-- The explanation of the report on a question: that of the table of what the verifier says, which leads to the verdict
-- by itself.
pub record IsExplanationOf (basis : Basis) (t : ℕ) (report : Report) (lines : List Line) : Type 0 where
  pub table : TableContents
  pub of : IsTableOf basis.meaning basis.moment basis.rrsets table
  pub is : IsExplanation (record { rrsets = basis.rrsets; anchors = basis.anchors; table = table; todo = [] }) t report.links
      report.last report.verdict lines
