use Rattle.std.proofs.Common.{[], ap, subst, sym, ◌∙◌}
use Rattle.std.specs.Prelude.{IfOk}
use Rattle.dnsv_chain.specs.Basis.{CaseContents, basis_by}
use Rattle.dnsv_verdict.specs.Report.{IsKept, hashes_in}
use Rattle.dnsv_verdict.specs.Way.{IsVerdictOf}
use Rattle.dnsv_holding.specs.Explained.{explained_by}
use Rattle.dnsv_holding.specs.SharedWays.{AreHopedWays}
use Rattle.dnsv_explain.specs.Explanation.{IsExplanation}
use Rattle.dnsv_explain.proofs.explanation.explainer.explained.Goals as goal

pub explanation_of-requires : goal.explanation_of-requires
explanation_of-requires c =
    let judged = c.args.judged.now in
    let report = judged.report in
    let same = sym c.case-case.ensures in record {
      trust = c.trust-trust.ensures.of;
      hoped = subst (λ (each : CaseContents). AreHopedWays each c.hoped_ways-hoped.result.now) same c.hoped_ways-hoped.ensures;
      evidence = c.evidence-evidence.ensures ∙ ap (λ (each : CaseContents). explained_by each []) same;
      kept = subst (λ (each : CaseContents). IsKept each c.args.rtype.0 report.links report.last report.verdict (hashes_in judged) judged.hope) same
          c.requires.kept;
      verdict = (
        c.requires.verdict.0,
        subst (λ (each : CaseContents). IsVerdictOf (basis_by each) c.requires.verdict.0 c.args.rtype.0 report.links report.last report.verdict) same
            c.requires.verdict.1,
      );
    }

pub returns : goal.returns
returns c =
    let report = c.args.judged.now.report in
    subst (λ (each : CaseContents). IfOk c.explanation_of.result (IsExplanation (explained_by each []) c.args.rtype.0 report.links report.last report.verdict))
    c.case-case.ensures c.explanation_of.ensures
