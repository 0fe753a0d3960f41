use Rattle.std.proofs.Common.{subst, sym}
use Rattle.std.proofs.lemmas.Result.{err_from_is_err_and}
use Rattle.dnsv_verdict.proofs.ReportLemmas.{same_refusal}
use Rattle.dnsv_chain.specs.Basis.{CaseContents, IsCaseOf, basis_by}
use Rattle.dnsv_verdict.specs.Report.{IsKept, hashes_in}
use Rattle.dnsv_verdict.specs.Way.{IsVerdictOf}
use Rattle.dnsv_holding.proofs.lemmas.telling.RefusalLemmas.{not_refused, without_memory}
use Rattle.dnsv_explain.proofs.lemmas.telling.ReportLemmas.{explained_of}
use Rattle.dnsv_explain.proofs.explanation.explainer.Explainer.explain.Goals as goal

pub explained-requires-clause-kept : goal.explained-requires-clause-kept
explained-requires-clause-kept c =
    let judged = c.in_ok-judged.judged in
    subst (λ (each : CaseContents). IsKept each c.args.rtype.0 judged.report.links judged.report.last judged.report.verdict (hashes_in judged) judged.hope)
    (sym c.in_ok-judged.ensures.same) c.in_ok-judged.ensures.kept

pub explained-requires-clause-verdict : goal.explained-requires-clause-verdict
explained-requires-clause-verdict c =
    let report = c.in_ok-judged.judged.report in (
      c.args.name.now,
      subst (λ (each : CaseContents). IsVerdictOf (basis_by each) c.args.name.now c.args.rtype.0 report.links report.last report.verdict)
          (sym c.in_ok-judged.ensures.same) c.in_ok-judged.ensures.by_table,
    )

pub returns-in_err-judged-clause-refused : goal.returns-in_err-judged-clause-refused
returns-in_err-judged-clause-refused c = λ basis same.
    let is : IsCaseOf basis c.self.inside.deriver = subst (λ (case : CaseContents). IsCaseOf basis case) (sym c.self.view_is) same in
    let p = err_from_is_err_and c.from_residual.result c.from_residual.ensures.1 in
    rw (p.1, p.2) (same_refusal basis c.args.name.now c.args.rtype.0 c.in_err-judged.field-0.0 (c.in_err-judged.ensures.refused basis is))

pub returns-in_err-explanation-clause-refused : goal.returns-in_err-explanation-clause-refused
returns-in_err-explanation-clause-refused c = λ basis same.
    let is : IsCaseOf basis c.self.inside.deriver = subst (λ (case : CaseContents). IsCaseOf basis case) (sym c.self.view_is) same in
    let p = err_from_is_err_and c.from_residual-in_err-explanation.result c.from_residual-in_err-explanation.ensures.1 in
    rw (p.1, p.2) (without_memory basis c.args.name.now c.args.rtype.0 c.in_ok-judged.judged (c.in_ok-judged.ensures.refused basis is))

pub returns-clause-report : goal.returns-clause-report
returns-clause-report c = λ basis same.
    let is : IsCaseOf basis c.self.inside.deriver = subst (λ (case : CaseContents). IsCaseOf basis case) (sym c.self.view_is) same in
    c.in_ok-judged.ensures.report basis is

pub returns-clause-explanation : goal.returns-clause-explanation
returns-clause-explanation c = λ basis same.
    let is : IsCaseOf basis c.self.inside.deriver = subst (λ (case : CaseContents). IsCaseOf basis case) (sym c.self.view_is) same in
    let there = subst (λ (case : CaseContents). IsCaseOf basis case) (sym c.in_ok-judged.ensures.same) is in
    explained_of basis _ c.args.rtype.0 c.in_ok-judged.judged.report _ there c.in_ok-explanation.ensures

pub returns-clause-refused : goal.returns-clause-refused
returns-clause-refused c = λ basis same.
    let is : IsCaseOf basis c.self.inside.deriver = subst (λ (case : CaseContents). IsCaseOf basis case) (sym c.self.view_is) same in
    not_refused basis c.args.name.now c.args.rtype.0 c.in_ok-judged.judged (c.in_ok-judged.ensures.refused basis is) _
