use Rattle.std.proofs.Common.{IfOk, subst}
use Rattle.dnsv_timeline.specs.Range.{Moments}
use Rattle.dnsv_answers.specs.AnswerFile.{answers_in}
use Rattle.dnsv_answers.specs.Answered.{IsAnsweredTableWithin}
use Rattle.dnsv_answers.proofs.AnsweredLemmas.{fault_then}
use Rattle.dnsv_answers.proofs.answered.answered_table.Goals as goal

pub returns-clause-table : goal.returns-clause-table
returns-clause-table c =
    subst (λ (r : Moments). IfOk c.answered_table_within.result (IsAnsweredTableWithin r.from r.to c.args.capture.now.rrsets (answers_in c.args.answers.now)))
    c.in-Some.ensures.1 c.answered_table_within.ensures.table

pub returns-clause-fault : goal.returns-clause-fault
returns-clause-fault c =
    fault_then c.args.moment c.args.capture.now.rrsets c.args.answers.now c.in-Some.range c.answered_table_within.result c.in-Some.ensures.1
    c.answered_table_within.ensures.fault
