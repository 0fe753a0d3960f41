use Rattle.std.proofs.lemmas.Result.{err_from_is_err_and}
use Rattle.dnsv_work.proofs.OpenedLemmas.{which_unopened}
use Rattle.dnsv_program.proofs.ProgramLemmas.Told.{not_opened, told_by_run}
use Rattle.dnsv_program.proofs.program.answer.Goals as goal

pub returns-in_err-inputs-clause-unopened : goal.returns-in_err-inputs-clause-unopened
returns-in_err-inputs-clause-unopened g c = λ opens tells file.
    let p = err_from_is_err_and c.from_residual.result c.from_residual.ensures.1 in
    rw (p.1, p.2) (which_unopened _ c.in_err-inputs.field-0.0 file (c.in_err-inputs.ensures.unopened opens tells) c.in_err-inputs.ensures.only)

pub returns-in_err-inputs-clause-question : goal.returns-in_err-inputs-clause-question
returns-in_err-inputs-clause-question g c =
    let p = err_from_is_err_and c.from_residual.result c.from_residual.ensures.1 in
    rw (p.1, p.2) (not_opened c.args.request.now c.in_err-inputs.field-0.0 c.in_err-inputs.ensures.only)

pub returns-clause-question : goal.returns-clause-question
returns-clause-question g c = told_by_run c.args.request.now c.run.result c.run.ensures.question
