-- An explanation is told in one way.
use Rattle.std.proofs.Common.{◌≡◌, ℕ, List, [], subst}
use Rattle.dnsv_names.specs.Name.{Labels}
use Rattle.dnsv_verifier.proofs.TableLemmas.{only_table}
use Rattle.dnsv_verifier.specs.Table.{TableContents}
use Rattle.dnsv_verdict.specs.Way.{IsVerdictOf}
use Rattle.dnsv_chain.specs.Basis.{Basis}
use Rattle.dnsv_verdict.specs.declared.link.Link.{Link}
use Rattle.dnsv_verdict.specs.declared.report.Report.{Report}
use Rattle.dnsv_verdict.specs.declared.verdict.Verdict.{Verdict}
use Rattle.dnsv_verdict.specs.declared.verdict.Verdict.TheVariants.{Bogus, Indeterminate}
use Rattle.dnsv_derivations.specs.Explained.{Explained, setting_in}
use Rattle.dnsv_explain.specs.Explanation.{IsExplanation, IsExplanationOf, IsFailureTold}
use Rattle.dnsv_holding.specs.Holding.{IsHoldingTold}
use Rattle.dnsv_derivations.specs.Saying.{AreBoth}
use Rattle.dnsv_lines.specs.declared.line.Line.{Line}
use Rattle.dnsv_explain_laws.proofs.lemmas.one.FailureLemmas.{one_failure_told}
use Rattle.dnsv_derivations.proofs.lemmas.one.StepLemmas.{IsOne, one_both}
use Rattle.dnsv_derivations.proofs.lemmas.one.TrustedLemmas.{AreApart}
use Rattle.dnsv_explain_laws.proofs.holding.one.HoldingLemmas.{NeedsApart, needs_apart, none_apart, one_holding}

module _ (explained : Explained) (none : AreApart explained.todo) (t : ℕ) where
  one_failed : (links : List Link) (last : Labels) (verdict : Verdict) → NeedsApart explained none t verdict
      → IsOne (AreBoth (IsFailureTold (setting_in explained) last t) (IsHoldingTold explained t links last verdict))
  one_failed links last verdict apart before a b x y =
      one_both (IsFailureTold (setting_in explained) last t) (IsHoldingTold explained t links last verdict)
      (one_failure_told (setting_in explained) last t) (one_holding explained none t links last verdict apart) before a b x y

  one_explanation : (links : List Link) (last : Labels) (verdict : Verdict) → NeedsApart explained none t verdict → (a b : List Line)
      → IsExplanation explained t links last verdict a → IsExplanation explained t links last verdict b → a ≡ b
  one_explanation links last Bogus apart a b x y = one_failed links last Bogus apart [] a b x y
  one_explanation links last Indeterminate apart a b x y = one_failed links last Indeterminate apart [] a b x y
  one_explanation links last verdict apart a b x y = one_holding explained none t links last verdict apart [] a b x y

pub one_of_report : (basis : Basis) (name : Labels) (t : ℕ) (report : Report) (a b : List Line)
    → IsVerdictOf basis name t report.links report.last report.verdict → IsExplanationOf basis t report a → IsExplanationOf basis t report b → a ≡ b
one_of_report basis name t report a b is x y =
    let explained_by : TableContents → Explained = λ table.
    record { rrsets = basis.rrsets; anchors = basis.anchors; table = table; todo = [] } in
    let table : x.table ≡ y.table = only_table basis.meaning basis.moment basis.rrsets x.table x.of y.table y.of in
    let Of : TableContents → Type 0 = λ each. IsExplanation (explained_by each) t report.links report.last report.verdict a in
    one_explanation (explained_by y.table) none_apart t report.links report.last report.verdict
    (needs_apart (explained_by y.table) none_apart basis report.last t report.verdict is.is_verdict) a b (subst Of table x.is) y.is
