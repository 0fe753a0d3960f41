use Rattle.std.proofs.Common.{ap, Err}
use Rattle.std.proofs.lemmas.Result.{err_from_is_err_and}
use Rattle.dnsv_questions.proofs.QuestionFileLaws.{AreQuestionsOf-no_fault, IsFaultOf-only}
use Rattle.dnsv_questions.proofs.questions.Questions.parse.Goals as goal

pub returns-in_err-test_lines-clause-every_fault : goal.returns-in_err-test_lines-clause-every_fault
returns-in_err-test_lines-clause-every_fault c = λ fault is.
    let p = err_from_is_err_and c.from_residual.result c.from_residual.ensures.1 in
    rw (p.1, p.2) (ap Err (IsFaultOf-only c.args.text.now _ fault c.in_err-test_lines.ensures.fault is))

pub returns-in_err-questions-clause-every_fault : goal.returns-in_err-questions-clause-every_fault
returns-in_err-questions-clause-every_fault c = λ fault is.
    let some = c.in_ok-test_lines.ensures.asked in absurd (AreQuestionsOf-no_fault c.args.text.now some.0 fault some.1 is)

pub returns-clause-every_fault : goal.returns-clause-every_fault
returns-clause-every_fault c = λ fault is.
    let some = c.in_ok-test_lines.ensures.asked in absurd (AreQuestionsOf-no_fault c.args.text.now some.0 fault some.1 is)
