-- What has to be so that a question's lines can be told. No public clause but those of the crate above cites this module.
use Rattle.std.specs.Prelude.{◌≡◌, ℕ, List, []}
use Rattle.dnsv_names.specs.Name.{Labels}
use Rattle.dnsv_chain.specs.Basis.{CaseContents, HasTrust, basis_by}
use Rattle.dnsv_verdict.specs.Report.{IsKept, hashes_in}
use Rattle.dnsv_verdict.specs.Way.{IsVerdictOf}
use Rattle.dnsv_verdict.specs.declared.report.Judged.{Judged}
use Rattle.dnsv_derivations.specs.declared.derivations.ways.kept.KeptWay.{KeptWay}
use Rattle.dnsv_holding.specs.Explained.{Explained, explained_by}
use Rattle.dnsv_holding.specs.SharedWays.{AreHopedWays}

-- the case judged the question for the type and kept what it was found by, what is explained is the case, and these are
-- the first ways by what may be hoped of it
pub record IsJudgedBy (case : CaseContents) (explained : Explained) (ways : List KeptWay) (t : ℕ) (judged : Judged) : Type 0 where
  pub trust : HasTrust case
  pub hoped : AreHopedWays case ways
  pub evidence : explained ≡ explained_by case []
  pub kept : IsKept case t judged.report.links judged.report.last judged.report.verdict (hashes_in judged) judged.hope
  pub verdict : (name : Labels)
      × IsVerdictOf (basis_by case) name t judged.report.links judged.report.last judged.report.verdict
