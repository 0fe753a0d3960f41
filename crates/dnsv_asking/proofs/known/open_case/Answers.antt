use Rattle.std.proofs.lemmas.Result.{err_from_is_err_and}
use Rattle.dnsv_answers.proofs.AnsweredLaws.{answered_is_table}
use Rattle.dnsv_answers.specs.declared.heading.Moments.TheVariants.{At}
use Rattle.dnsv_verifier.specs.Table.{table_answer}
use Rattle.dnsv_chain.specs.Basis.{IsCaseOf, basis_of}
use Rattle.dnsv_asking.specs.Judging.{case_of}
use Rattle.dnsv_work.proofs.WorkLemmas.Known.{known_answered, known_stated, miscounted}
use Rattle.dnsv_asking.proofs.known.open_case.Goals as goal

pub by_table-requires : goal.by_table-requires
by_table-requires c =
    let table = c.in_ok-table-in-Answers.table in (
      basis_of c.args.held.now.rrsets c.args.anchors.now c.args.moment (table_answer table),
      answered_is_table c.args.moment c.args.held.now.rrsets _ table c.in_ok-table-in-Answers.ensures.table,
    )

pub returns-in_ok-judging-in-Statements-clause-known : goal.returns-in_ok-judging-in-Statements-clause-known
returns-in_ok-judging-in-Statements-clause-known c =
    known_stated (λ meaning. IsCaseOf (basis_of c.args.held.now.rrsets c.args.anchors.now c.args.moment meaning) (case_of c.in_ok-judging-in-Statements.judging))
    (At c.args.moment) c.args.held.now.rrsets c.args.said.now c.in-Statements.statements c.in-Statements.is c.in_ok-judging-in-Statements.ensures.case

pub returns-in_ok-judging-in-Answers-clause-known : goal.returns-in_ok-judging-in-Answers-clause-known
returns-in_ok-judging-in-Answers-clause-known c =
    known_answered (λ meaning. IsCaseOf (basis_of c.args.held.now.rrsets c.args.anchors.now c.args.moment meaning) (case_of c.in_ok-judging-in-Answers.judging))
    (At c.args.moment) c.args.held.now.rrsets c.args.said.now c.in-Answers.answers c.in_ok-table-in-Answers.table c.in-Answers.is c.in_ok-table-in-Answers.ensures.table
    (c.in_ok-judging-in-Answers.ensures.case (table_answer c.in_ok-table-in-Answers.table) c.args.moment c.args.held.now.rrsets
    (answered_is_table c.args.moment c.args.held.now.rrsets _ c.in_ok-table-in-Answers.table c.in_ok-table-in-Answers.ensures.table))

pub returns-in_err-table-in-Answers-clause-fault : goal.returns-in_err-table-in-Answers-clause-fault
returns-in_err-table-in-Answers-clause-fault c =
    let p = err_from_is_err_and c.from_residual-in_err-table-in-Answers.result c.from_residual-in_err-table-in-Answers.ensures.1 in
    rw (p.1, p.2) (miscounted (At c.args.moment) c.args.held.now.rrsets c.args.said.now c.in-Answers.answers c.in_err-table-in-Answers.field-0.0 c.in-Answers.is
    c.in_err-table-in-Answers.ensures.fault)
