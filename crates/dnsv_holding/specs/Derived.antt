-- What of an explanation derives a question: the lines of its way, and those of the verdict at its end.
use Rattle.std.specs.Prelude.{ℕ, List, [], ◌∷◌, ◌++◌}
use Rattle.dnsv_names.specs.Name.{Labels}
use Rattle.dnsv_verifier.specs.Table.{IsTableOf, TableContents}
use Rattle.dnsv_verdict.specs.Report.{IsReport}
use Rattle.dnsv_chain.specs.Basis.{Basis}
use Rattle.dnsv_verdict.specs.Way.{IsRefusedFor}
use Rattle.dnsv_verdict.specs.declared.error.VerdictError.{VerdictError}
use Rattle.dnsv_verdict.specs.declared.link.Link.{Link}
use Rattle.dnsv_verdict.specs.declared.verdict.Verdict.{Verdict}
use Rattle.dnsv_verdict.specs.declared.verdict.Verdict.TheVariants.{Bogus, Indeterminate}
use Rattle.dnsv_derivations.specs.Explained.{Explained, setting_in}
use Rattle.dnsv_derivations.specs.Saying.{AreEach}
use Rattle.dnsv_lines.specs.declared.line.Line.{Line}
use Rattle.dnsv_holding.specs.Holding.{IsLinkTold, IsWayTold}
use Rattle.dnsv_holding.specs.declared.derivation.Outcome.{Outcome}
use Rattle.dnsv_holding.specs.declared.derivation.Outcome.TheVariants as outcome

-- what is explained of the evidence and the anchors by the table
abbrev pub explained_with : Basis → TableContents → Explained
explained_with basis table = record { rrsets = basis.rrsets; anchors = basis.anchors; table = table; todo = [] }

-- what holds for each link, in order
abbrev pub AreLinksTold : Explained → List Link → List Line → Type 0
AreLinksTold explained links = AreEach (IsLinkTold (setting_in explained)) links []

-- What holds for each link, and then for the verdict or what may be hoped; where nothing is proved, for the links alone:
-- how far trust holds derives nothing of the question.
abbrev pub IsDerivationTold : Explained → ℕ → List Link → Labels → Verdict → List Line → Type 0
IsDerivationTold explained t links last Bogus = AreLinksTold explained links
IsDerivationTold explained t links last Indeterminate = AreLinksTold explained links
IsDerivationTold explained t links last verdict = IsWayTold explained t links last verdict []

-- by the table of what the verifier says at the moment
pub record AreLinksDerived (basis : Basis) (links : List Link) (lines : List Line) : Type 0 where
  pub table : TableContents
  pub of : IsTableOf basis.meaning basis.moment basis.rrsets table
  pub told : AreLinksTold (explained_with basis table) links lines

-- and so for a verdict
pub record IsDerivationOf
    (basis : Basis) (t : ℕ) (links : List Link) (last : Labels) (verdict : Verdict) (lines : List Line) : Type 0 where
  pub table : TableContents
  pub of : IsTableOf basis.meaning basis.moment basis.rrsets table
  pub told : IsDerivationTold (explained_with basis table) t links last verdict lines

-- ---- of a question

-- an alias at the last name
abbrev pub alias_of : Labels → ℕ → ℕ → Link
alias_of last k s = record { name = last; rrset = k; signature = s }

-- the question is refused so, and the lines derive the links of its way and then the alias that can't be followed
pub record IsRefusalDerived (basis : Basis) (name : Labels) (t : ℕ) (error : VerdictError) (lines : List Line) : Type 0 where
  pub is : IsRefusedFor basis name t error
  pub derived : AreLinksDerived basis (is.links ++ alias_of is.last is.k is.s ∷ []) lines

-- the question has this outcome, and the lines derive it
abbrev pub IsDerived : Basis → Labels → ℕ → Outcome → List Line → Type 0
IsDerived basis name t (outcome.Verdict report) lines =
    IsReport basis name t report × IsDerivationOf basis t report.links report.last report.verdict lines
IsDerived basis name t (outcome.Refused error) lines = IsRefusalDerived basis name t error lines
