use Rattle.std.proofs.lemmas.Result.{err_from_is_err_and}
use Rattle.dnsv_answers.specs.declared.heading.Moments.TheVariants.{At}
use Rattle.dnsv_asking.specs.Asking.{IsReachedByEach}
use Rattle.dnsv_work.specs.Known.{AreMiscountedIn}
use Rattle.dnsv_asking.proofs.AskingLemmas.Files.{all_asked, all_done, asked_reached, first_begun, first_whole, given_failed, told_behind}
use Rattle.dnsv_work.proofs.WorkLemmas.InOrder.{none_given}
use Rattle.dnsv_asking.proofs.asking.check_each.Goals as goal

pub returns-in_err-given-clause-faults : goal.returns-in_err-given-clause-faults
returns-in_err-given-clause-faults g c =
    let p = err_from_is_err_and c.from_residual-in_err-given.result c.from_residual-in_err-given.ensures.1 in
    rw (p.1, p.2) (given_failed c.text_in.new.reader c.in_ok-questions.questions c.in_ok-questions.ensures.reads c.args.moment c.in_err-given.field-0.0
    (λ files are. (c.in_ok-questions.questions, c.in_ok-questions.ensures.said files.questions are.questions)) c.in_err-given.ensures.faults c.given_in.ensures.questions)

pub returns-clause-faults : goal.returns-clause-faults
returns-clause-faults g c =
    all_asked c.text_in.new.reader c.in_ok-questions.questions c.in_ok-questions.ensures.reads c.args.moment c.answer_all.result
    (λ files are. (c.in_ok-questions.questions, c.in_ok-questions.ensures.said files.questions are.questions)) c.in_ok-given.given c.in_ok-given.ensures.faults
    c.given_in.ensures.questions (AreMiscountedIn (At c.args.moment) c.in_ok-given.given.held.rrsets c.in_ok-given.given.said)
    (λ files are. none_given (At c.args.moment) files (c.in_ok-given.ensures.given files are)) c.answer_all.ensures.only

pub returns-clause-reached : goal.returns-clause-reached
returns-clause-reached g c = λ files are.
    asked_reached (AreMiscountedIn (At c.args.moment) c.in_ok-given.given.held.rrsets c.in_ok-given.given.said) (IsReachedByEach c.args.moment files) c.answer_all.result
    c.answer_all.ensures.only

pub returns-clause-done : goal.returns-clause-done
returns-clause-done g c = λ files are.
    all_done c.args.telling.format c.args.telling.why c.args.moment files c.in_ok-questions.questions (c.in_ok-questions.ensures.said files.questions are.questions)
    (c.in_ok-given.ensures.given files (told_behind c.text_in.new.reader are.beside)) _ _ c.answer_all.result (rw c.as_slice.ensures at c.answer_all.ensures.done)

pub returns-clause-begun : goal.returns-clause-begun
returns-clause-begun g c = λ files are failed.
    first_begun c.args.telling.format c.args.telling.why c.args.moment files c.in_ok-questions.questions (c.in_ok-questions.ensures.said files.questions are.questions)
    (c.in_ok-given.ensures.given files (told_behind c.text_in.new.reader are.beside)) _ _ (rw c.as_slice.ensures at (c.answer_all.ensures.begun failed))

pub returns-clause-whole : goal.returns-clause-whole
returns-clause-whole g c = λ memory.
    first_whole c.args.telling.format c.args.telling.why c.args.moment c.in_ok-questions.questions _ _
    (λ files are. c.in_ok-questions.ensures.said files.questions are.questions)
    (λ files are. c.in_ok-given.ensures.given files (told_behind c.text_in.new.reader are.beside)) (rw c.as_slice.ensures at (c.answer_all.ensures.whole memory))
