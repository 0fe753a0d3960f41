use Rattle.std.proofs.Common.{subst, sym, ◌∙◌}
use Rattle.std.proofs.lemmas.List.{length-map}
use Rattle.std.proofs.lemmas.Result.{err_from_is_err_and}
use Rattle.dnsv_verifier.specs.Table.{TableContents}
use Rattle.dnsv_answers.specs.AnswerFile.{answers_in}
use Rattle.dnsv_answers.specs.Answered.{IsAnsweredTableWithin}
use Rattle.dnsv_answers.specs.declared.said.SaidAnswer.{SaidAnswer}
use Rattle.dnsv_answers.proofs.AnsweredLemmas.{answered_by, fault_of_asked}
use Rattle.dnsv_answers.proofs.answered.answered_table_within.Goals as goal

pub returns-clause-table : goal.returns-clause-table
returns-clause-table c =
    let from = c.args.range.from in
    let to = c.args.range.to in
    let rrsets = c.args.capture.now.rrsets in
    let said = answers_in c.args.answers.now in
    let each = length-map c.args.answers.now.said (λ (each : SaidAnswer). each.answer) ∙ c.in_ok-table.ensures.count in
    subst (λ (table : TableContents). IsAnsweredTableWithin from to rrsets said table) (sym c.in_ok-table.ensures.table)
    (answered_by from to rrsets c.in_ok-asked.asked c.in_ok-asked.ensures.moment c.in_ok-asked.ensures.table said each)

pub returns-in_err-table-clause-fault : goal.returns-in_err-table-clause-fault
returns-in_err-table-clause-fault c =
    let p = err_from_is_err_and c.from_residual-in_err-table.result c.from_residual-in_err-table.ensures.1 in
    rw (p.1, p.2)
    (fault_of_asked c.args.range.from c.args.range.to c.args.capture.now.rrsets c.in_ok-asked.asked c.in_ok-asked.ensures.table c.args.answers.now
    c.in_err-table.field-0.0 c.in_err-table.ensures.fault)
