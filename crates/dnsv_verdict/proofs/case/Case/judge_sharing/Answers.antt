-- the verdict that the question leads to, or what it is refused for
use Rattle.std.proofs.Common.{subst}
use Rattle.std.proofs.lemmas.Result.{err_from_is_err_and}
use Rattle.dnsv_verdict.proofs.ReportLemmas.{none_refused, not_traced, refused_where_it_stops}
use Rattle.dnsv_chain.specs.Basis.{basis_by}
use Rattle.dnsv_verdict.specs.Report.{IsReport}
use Rattle.dnsv_verdict.specs.Traced.{IsTrace, IsWayTo}
use Rattle.dnsv_verdict.specs.declared.traced.Traced.{Traced}
use Rattle.dnsv_verdict.proofs.case.Case.judge_sharing.Goals as goal

pub returns-in-Reached-clause-report : goal.returns-in-Reached-clause-report
returns-in-Reached-clause-report c = λ of is.
    subst (λ (each : Traced). IsTrace of c.args.name.now c.args.rtype.0 each) c.in-Reached.is (c.in_ok-traced.ensures.trace of is)

pub returns-in-Reached-clause-refused : goal.returns-in-Reached-clause-refused
returns-in-Reached-clause-refused c = λ of is.
    let report = c.in-Reached.judged.report in
    let told : IsReport of c.args.name.now c.args.rtype.0 report =
    subst (λ (each : Traced). IsTrace of c.args.name.now c.args.rtype.0 each) c.in-Reached.is (c.in_ok-traced.ensures.trace of is) in
    none_refused of c.args.name.now c.args.rtype.0 report.links report.last report.verdict _ c.in_ok-traced.ensures.asked told.verdict

pub returns-in-Reached-clause-by_table : goal.returns-in-Reached-clause-by_table
returns-in-Reached-clause-by_table c = λ of is.
    subst (λ (each : Traced). IsWayTo (basis_by c.args.self.now) c.args.name.now c.args.rtype.0 each) c.in-Reached.is (c.in_ok-traced.ensures.by_table of is)

pub returns-in-Stopped-clause-refused : goal.returns-in-Stopped-clause-refused
returns-in-Stopped-clause-refused c = λ of is.
    let stopped = c.in-Stopped.stopped in
    refused_where_it_stops of c.args.name.now c.args.rtype.0 stopped.links stopped.alias stopped.error c.in_ok-traced.ensures.asked
    (subst (λ (each : Traced). IsTrace of c.args.name.now c.args.rtype.0 each) c.in-Stopped.is (c.in_ok-traced.ensures.trace of is))

pub returns-in_err-traced-clause-refused : goal.returns-in_err-traced-clause-refused
returns-in_err-traced-clause-refused c = λ of is.
    let p = err_from_is_err_and c.from_residual.result c.from_residual.ensures.1 in
    rw (p.1, p.2) (not_traced of c.args.name.now c.args.rtype.0 c.in_err-traced.field-0.0 c.in_err-traced.ensures.question c.in_err-traced.ensures.refused)
