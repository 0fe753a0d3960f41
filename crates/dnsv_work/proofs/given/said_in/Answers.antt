use Rattle.std.proofs.Common.{◌∙◌, ap, not}
use Rattle.std.proofs.lemmas.Result.{err_from_is_err_and}
use Rattle.dnsv_work.proofs.ReachedLemmas.{given_file}
use Rattle.dnsv_work.proofs.WorkLemmas.Known.{faulty_before, given_some, said_by}
use Rattle.dnsv_work.specs.Span.{moments_of}
use Rattle.dnsv_work.proofs.given.said_in.Goals as goal

pub returns-in_err-answers-clause-faults : goal.returns-in_err-answers-clause-faults
returns-in_err-answers-clause-faults g c = λ capture stated answered framed by_statements by_answers.
    let p = err_from_is_err_and c.from_residual-in_err-answers.result c.from_residual-in_err-answers.ensures.1 in
    let given = given_some c.args.answers.now (c.is_none.ensures ∙ ap not c.if-is_none.false) in
    rw (p.1, p.2) (faulty_before capture (moments_of c.args.span.now) stated answered c.in_err-answers.field-0.0
    (given_file g.R.Read.remaining c.args.answers.now answered by_answers given) (rw c.moments.ensures at (c.in_err-answers.ensures.faults capture answered framed by_answers)))

pub returns-clause-said : goal.returns-clause-said
returns-clause-said g c = λ capture stated answered framed by_statements by_answers.
    let given = given_some c.args.answers.now (c.is_none.ensures ∙ ap not c.if-is_none.false) in
    said_by capture (moments_of c.args.span.now) stated answered c.in_ok-answers.answers
    (given_file g.R.Read.remaining c.args.answers.now answered by_answers given) (rw c.moments.ensures at (c.in_ok-answers.ensures.said capture answered framed by_answers))
