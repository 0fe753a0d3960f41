use Rattle.std.proofs.Common.{◌∙◌}
use Rattle.std.proofs.lemmas.Result.{err_from_is_err_and}
use Rattle.dnsv_answers.specs.AnswerFile.{answers_in}
use Rattle.dnsv_answers.specs.declared.heading.Moments.TheVariants.{Between}
use Rattle.dnsv_answers.proofs.AnsweredLaws.{answered_within}
use Rattle.dnsv_verifier.specs.Table.{table_answer}
use Rattle.dnsv_moments.specs.Moments.{AreMomentsBy}
use Rattle.dnsv_work.proofs.WorkLemmas.Known.{known_answered, known_stated, miscounted}
use Rattle.dnsv_program.proofs.work.timeline.moments_by.Goals as goal

pub returns-in_ok-moments-in-Statements-clause-known : goal.returns-in_ok-moments-in-Statements-clause-known
returns-in_ok-moments-in-Statements-clause-known c =
    let given = c.args.given.now in
    known_stated (λ meaning. AreMomentsBy given.held.rrsets given.anchors c.args.range.from c.args.range.to meaning c.in_ok-moments-in-Statements.moments)
    (Between c.args.range.from c.args.range.to) given.held.rrsets given.said c.in-Statements.statements c.in-Statements.is c.in_ok-moments-in-Statements.ensures.of

pub returns-in_ok-table-in-Answers-clause-known : goal.returns-in_ok-table-in-Answers-clause-known
returns-in_ok-table-in-Answers-clause-known c =
    let given = c.args.given.now in
    let table = c.in_ok-table-in-Answers.table in
    let within = answered_within c.args.range.from c.args.range.to given.held.rrsets (answers_in c.in-Answers.answers) table c.in_ok-table-in-Answers.ensures.table in
    let is = c.of.ensures.of in
    known_answered (λ meaning. AreMomentsBy given.held.rrsets given.anchors c.args.range.from c.args.range.to meaning c.of.result)
    (Between c.args.range.from c.args.range.to) given.held.rrsets given.said c.in-Answers.answers table c.in-Answers.is c.in_ok-table-in-Answers.ensures.table
    (record { evidence = is.evidence ∙ within.of_rrsets; given = is.given; first = is.first; last = is.last; said = c.of.ensures.by (table_answer table) given.held.rrsets within })

pub of-requires : goal.of-requires
of-requires c =
    let table = c.in_ok-table-in-Answers.table in
    let rrsets = c.args.given.now.held.rrsets in
    (table_answer table, rrsets, answered_within c.args.range.from c.args.range.to rrsets (answers_in c.in-Answers.answers) table c.in_ok-table-in-Answers.ensures.table)

pub returns-in_err-table-in-Answers-clause-fault : goal.returns-in_err-table-in-Answers-clause-fault
returns-in_err-table-in-Answers-clause-fault c =
    let p = err_from_is_err_and c.from_residual-in_err-table-in-Answers.result c.from_residual-in_err-table-in-Answers.ensures.1 in
    rw (p.1, p.2) (miscounted (Between c.args.range.from c.args.range.to) c.args.given.now.held.rrsets c.args.given.now.said c.in-Answers.answers c.in_err-table-in-Answers.field-0.0 c.in-Answers.is
    c.in_err-table-in-Answers.ensures.fault)
