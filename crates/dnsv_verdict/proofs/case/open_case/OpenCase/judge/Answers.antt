-- the case is the one as it was
use Rattle.std.proofs.Common.{subst, sym}
use Rattle.std.proofs.lemmas.Result.{err_from_is_err_and}
use Rattle.dnsv_verdict.proofs.ReportLemmas.{same_refusal}
use Rattle.dnsv_chain.specs.Basis.{CaseContents, IsCaseOf, basis_by}
use Rattle.dnsv_verdict.specs.Way.{IsVerdictOf}
use Rattle.dnsv_verdict.proofs.case.open_case.OpenCase.judge.Goals as goal

pub returns-in_err-judged-clause-refused : goal.returns-in_err-judged-clause-refused
returns-in_err-judged-clause-refused c = λ basis same.
    let is : IsCaseOf basis c.self.inside.case = subst (λ (case : CaseContents). IsCaseOf basis case) (sym c.self.view_is) same in
    let p = err_from_is_err_and c.from_residual.result c.from_residual.ensures.1 in
    rw (p.1, p.2) (same_refusal basis c.args.name.now c.args.rtype.0 c.in_err-judged.field-0.0 (c.in_err-judged.ensures.refused basis is))

pub returns-clause-report : goal.returns-clause-report
returns-clause-report c = λ basis same.
    c.in_ok-judged.ensures.report basis (subst (λ (case : CaseContents). IsCaseOf basis case) (sym c.self.view_is) same)

pub returns-clause-refused : goal.returns-clause-refused
returns-clause-refused c = λ basis same.
    c.in_ok-judged.ensures.refused basis (subst (λ (case : CaseContents). IsCaseOf basis case) (sym c.self.view_is) same)

pub returns-clause-by_table : goal.returns-clause-by_table
returns-clause-by_table c = λ basis same.
    let report = c.in_ok-judged.judged.report in
    subst (λ (case : CaseContents). IsVerdictOf (basis_by case) c.args.name.now c.args.rtype.0 report.links report.last report.verdict) c.self.view_is
    (c.in_ok-judged.ensures.by_table basis (subst (λ (case : CaseContents). IsCaseOf basis case) (sym c.self.view_is) same))
