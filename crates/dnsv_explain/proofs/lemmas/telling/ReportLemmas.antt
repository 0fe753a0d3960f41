-- What an explanation is of.
use Rattle.std.proofs.Common.{ℕ, List, [], subst}
use Rattle.dnsv_canonical.specs.Rrsets.{ReceivedRrset}
use Rattle.dnsv_anchors.specs.declared.anchor.Anchor.{Anchor}
use Rattle.dnsv_chain.specs.Basis.{IsCaseOf, Basis, CaseContents}
use Rattle.dnsv_verdict.specs.declared.report.Report.{Report}
use Rattle.dnsv_holding.specs.Explained.{explained_by}
use Rattle.dnsv_explain.specs.Explanation.{IsExplanation, IsExplanationOf}
use Rattle.dnsv_lines.specs.declared.line.Line.{Line}

-- what is explained by the case of the question is so of it
pub explained_of : (basis : Basis) (case : CaseContents) (t : ℕ) (report : Report) (lines : List Line) → IsCaseOf basis case
    → IsExplanation (explained_by case []) t report.links report.last report.verdict lines → IsExplanationOf basis t report lines
explained_of basis case t report lines are is =
    let By : List ReceivedRrset → List Anchor → Type 0 = λ rrsets anchors.
    IsExplanation (record { rrsets = rrsets; anchors = anchors; table = case.table; todo = [] }) t report.links report.last
    report.verdict lines in
    let Rrsets : List ReceivedRrset → Type 0 = λ each. By each case.anchors in
    let Anchors : List Anchor → Type 0 = λ each. By basis.rrsets each in
    record { table = case.table; of = are.table; is = subst Anchors are.anchors (subst Rrsets are.rrsets is) }
