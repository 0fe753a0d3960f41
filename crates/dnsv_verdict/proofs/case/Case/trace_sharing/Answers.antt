-- what the way comes to
use Rattle.std.proofs.Common.{subst}
use Rattle.dnsv_questions.specs.Question.{IsQuestion}
use Rattle.dnsv_verdict.proofs.MeaningLemmas.{aliases_mean, verdict_means}
use Rattle.dnsv_verdict.proofs.OfCase.{of_case, table_by}
use Rattle.dnsv_verdict.proofs.ReportLemmas.{number_asked}
use Rattle.dnsv_verdict.proofs.WayLemmas.{last_is_question}
use Rattle.dnsv_verdict.specs.Way.End.{IsEndOf}
use Rattle.dnsv_verdict.specs.Report.{IsReport}
use Rattle.dnsv_chain.specs.Basis.{Basis, basis_of}
use Rattle.dnsv_verdict.specs.Way.{IsStoppedAt, IsVerdictOf}
use Rattle.dnsv_verdict.specs.declared.link.Link.{Link}
use Rattle.dnsv_verdict.specs.declared.report.Report.{Report}
use Rattle.dnsv_verdict.specs.declared.way.End.{End}
use Rattle.dnsv_verifier.specs.Table.{table_answer}
use Rattle.dnsv_verdict.proofs.case.Case.trace_sharing.Goals as goal

-- ---- a verdict

pub returns-in-Reached-clause-trace : goal.returns-in-Reached-clause-trace
returns-in-Reached-clause-trace c = λ of is.
    let case = c.args.self.now in
    let way = c.in_ok-followed.followed.way in
    let verdict = c.in-Reached.verdict in
    let t = c.args.rtype.0 in
    let name = c.args.name.now in
    let asked : IsQuestion name t = c.is_question.ensures.0 c.if-not-is_question.false in
    let report : Report = record {
      links = way.links;
      last = way.last;
      verdict = verdict;
      asked = c.asked.result;
      hashed = c.exact_hashed-hashed.result;
    } in
    of_case (λ each. IsReport each name t report) of case is (λ meaning moment table.
    let basis : Basis = basis_of case.rrsets case.anchors moment meaning in
    let leads : IsVerdictOf basis name t way.links way.last verdict =
    subst (λ (end : End). IsEndOf basis name t way.links way.last end) c.in-Reached.is (c.in_ok-followed.ensures.end meaning moment table) in
    record {
      verdict = leads;
      meaning = verdict_means basis way.last t verdict leads.is_verdict;
      aliases = aliases_mean basis t name way.links way.last leads.way.leads;
      whole_chains = c.a_whole_chain_is_told_by_the_verdict.ensures basis way.last t verdict
          (last_is_question basis t name way.links way.last leads.way.leads asked) leads.is_verdict;
      asked = number_asked meaning moment case.rrsets case.table c.asked.result table c.asked.ensures;
      hashed = c.exact_hashed-hashed.ensures.exact;
      few = c.exact_hashed-hashed.ensures.few;
    })

pub returns-in-Reached-clause-by_table : goal.returns-in-Reached-clause-by_table
returns-in-Reached-clause-by_table c = λ of is.
    let case = c.args.self.now in
    let way = c.in_ok-followed.followed.way in
    subst (λ (end : End). IsEndOf (basis_of case.rrsets case.anchors case.table.moment (table_answer case.table)) c.args.name.now c.args.rtype.0 way.links way.last end)
    c.in-Reached.is
    (c.in_ok-followed.ensures.end (table_answer case.table) case.table.moment (table_by of case c.a_table_is_its_verifier.ensures.answer is))

-- ---- an alias that can't be followed

pub returns-in-Blocked-clause-trace : goal.returns-in-Blocked-clause-trace
returns-in-Blocked-clause-trace c = λ of is.
    let case = c.args.self.now in
    let way = c.in_ok-followed.followed.way in
    let alias : Link = record { name = way.last; rrset = c.in-Blocked.alias.0; signature = c.in-Blocked.alias.1 } in
    rw (c.stopped.ensures.links, c.stopped.ensures.alias, c.stopped.ensures.error)
    (of_case (λ each. IsStoppedAt each c.args.name.now c.args.rtype.0 way.links alias c.in-Blocked.error) of case is (λ meaning moment table.
    subst (λ (end : End). IsEndOf (basis_of case.rrsets case.anchors moment meaning) c.args.name.now c.args.rtype.0 way.links way.last end)
    c.in-Blocked.is (c.in_ok-followed.ensures.end meaning moment table)))

pub returns-in-Blocked-clause-by_table : goal.returns-in-Blocked-clause-by_table
returns-in-Blocked-clause-by_table c = λ of is.
    let case = c.args.self.now in
    let way = c.in_ok-followed.followed.way in
    rw (c.stopped.ensures.links, c.stopped.ensures.alias, c.stopped.ensures.error)
    (subst (λ (end : End). IsEndOf (basis_of case.rrsets case.anchors case.table.moment (table_answer case.table)) c.args.name.now c.args.rtype.0 way.links way.last end)
    c.in-Blocked.is
    (c.in_ok-followed.ensures.end (table_answer case.table) case.table.moment (table_by of case c.a_table_is_its_verifier.ensures.answer is)))
