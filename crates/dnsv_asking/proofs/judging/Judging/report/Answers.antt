use Rattle.std.proofs.Common.{subst}
use Rattle.std.proofs.lemmas.Result.{err_from_is_err_and}
use Rattle.dnsv_chain.specs.Basis.{IsCaseOf}
use Rattle.dnsv_asking.specs.Judging.{case_of}
use Rattle.dnsv_asking.specs.declared.judging.Judging.{Judging}
use Rattle.dnsv_asking.proofs.JudgedLemmas.{asked_well}
use Rattle.dnsv_asking.proofs.judging.Judging.report.Goals as goal

pub returns-in_err-judged-in-Plain-clause-refused : goal.returns-in_err-judged-in-Plain-clause-refused
returns-in_err-judged-in-Plain-clause-refused c = λ basis same.
    let is : IsCaseOf basis c.in-Plain.case = subst (λ (judge : Judging). IsCaseOf basis (case_of judge)) c.in-Plain.is same in
    let p = err_from_is_err_and c.from_residual.result c.from_residual.ensures.1 in
    rw (p.1, p.2) (c.in_err-judged-in-Plain.ensures.refused basis is).told

pub returns-in_err-report-in-Telling-clause-refused : goal.returns-in_err-report-in-Telling-clause-refused
returns-in_err-report-in-Telling-clause-refused c = λ basis same.
    let is : IsCaseOf basis c.in-Telling.explainer = subst (λ (judge : Judging). IsCaseOf basis (case_of judge)) c.in-Telling.is same in
    let p = err_from_is_err_and c.from_residual-in_err-report-in-Telling.result c.from_residual-in_err-report-in-Telling.ensures.1 in
    rw (p.1, p.2) (c.in_err-report-in-Telling.ensures.refused basis is).told

pub returns-in_ok-judged-in-Plain-clause-verdict : goal.returns-in_ok-judged-in-Plain-clause-verdict
returns-in_ok-judged-in-Plain-clause-verdict c = λ basis same.
    (c.in_ok-judged-in-Plain.ensures.report basis (subst (λ (judge : Judging). IsCaseOf basis (case_of judge)) c.in-Plain.is same)).verdict

pub returns-in_ok-report-in-Telling-clause-verdict : goal.returns-in_ok-report-in-Telling-clause-verdict
returns-in_ok-report-in-Telling-clause-verdict c = λ basis same.
    (c.in_ok-report-in-Telling.ensures.report basis (subst (λ (judge : Judging). IsCaseOf basis (case_of judge)) c.in-Telling.is same)).verdict

pub returns-in_ok-judged-in-Plain-clause-question : goal.returns-in_ok-judged-in-Plain-clause-question
returns-in_ok-judged-in-Plain-clause-question c = λ basis same. asked_well c.args.name.now c.args.rtype.0 c.in_ok-judged-in-Plain.ensures.question

pub returns-in_ok-report-in-Telling-clause-question : goal.returns-in_ok-report-in-Telling-clause-question
returns-in_ok-report-in-Telling-clause-question c = λ basis same.
    asked_well c.args.name.now c.args.rtype.0
    (c.in_ok-report-in-Telling.ensures.refused basis (subst (λ (judge : Judging). IsCaseOf basis (case_of judge)) c.in-Telling.is same)).question
