-- What is kept of a case for the explanations of all questions.
use Rattle.std.specs.Prelude.{List, []}
use Rattle.dnsv_verifier.specs.declared.entry.Entry.{Entry}
use Rattle.dnsv_chain.specs.Basis.{CaseContents, IsCaseOf, basis_by, Basis}
use Rattle.dnsv_verdict.specs.Verdict.{AreUnknown}
use Rattle.dnsv_derivations.specs.Explained.{setting_in}
use Rattle.dnsv_derivations.specs.derivations.WaySearch.{AreFirstWays}
use Rattle.dnsv_derivations.specs.declared.derivations.ways.kept.KeptWay.{KeptWay}
use Rattle.dnsv_holding.specs.Explained.{explained_by, hoped}

-- the case is of what some verifier says, and the ways are the first into its RRsets
pub record AreOfCase (case : CaseContents) (found : List KeptWay) : Type 0 where
  pub basis : Basis
  pub of : IsCaseOf basis case
  pub ways : AreFirstWays (setting_in (explained_by case [])) found

-- these are the first ways by what may be hoped of the case, with the numbers of the entries that its verifier doesn't
-- know: of none, or of all of its RRsets
abbrev pub AreHopedWays : CaseContents → List KeptWay → Type 0
AreHopedWays case found =
    (unknown : List Entry) → AreUnknown (basis_by case) unknown
    → AreFirstWays (setting_in (hoped (explained_by case []) unknown)) found
