use Rattle.std.proofs.Common.{inl, inr}
use Rattle.std.proofs.lemmas.Result.{err_from_is_err_and}
use Rattle.dnsv_answers.specs.declared.heading.Moments.TheVariants.{At}
use Rattle.dnsv_chain.specs.Basis.{basis_of}
use Rattle.dnsv_verdict.specs.Way.{IsRefusedFor}
use Rattle.dnsv_verdict.specs.declared.error.VerdictError.{VerdictError}
use Rattle.dnsv_work.specs.Faults.{IsFirstFaultOfFiles}
use Rattle.dnsv_asking.specs.Checking.{IsFirstFaultOfName}
use Rattle.dnsv_work.specs.Reached.{IsReachedOfFiles}
use Rattle.dnsv_work.specs.Known.{AreMiscountedIn, Ground}
use Rattle.dnsv_files.proofs.FileLemmas.Faults.{beside_passed, with_questions}
use Rattle.dnsv_asking.proofs.JudgedLemmas.{given_or_refused, judged_unrefused, stopped_there, ungiven_read, ungiven_writes}
use Rattle.dnsv_asking.proofs.CheckingLemmas.{all_checked}
use Rattle.dnsv_work.proofs.WorkLemmas.InOrder.{all_given, none_given}
use Rattle.dnsv_asking.proofs.checking.check_question.Goals as goal

pub returns-in_err-given-clause-faults : goal.returns-in_err-given-clause-faults
returns-in_err-given-clause-faults g c =
    let p = err_from_is_err_and c.from_residual.result c.from_residual.ensures.1 in
    rw (p.1, p.2) (with_questions (IsFirstFaultOfFiles (At c.args.asked.now.moment)) (IsFirstFaultOfName c.args.asked.now.name.now c.args.asked.now.rtype.0 c.args.asked.now.moment) _
    (λ files fault holds. inl holds) c.given_in.ensures.questions (beside_passed c.in_err-given.field-0.0 c.in_err-given.ensures.faults))

pub returns-in_err-given-clause-reached : goal.returns-in_err-given-clause-reached
returns-in_err-given-clause-reached g c = λ files are.
    let p = err_from_is_err_and c.from_residual.result c.from_residual.ensures.1 in
    rw (p.1, p.2) (c.in_err-given.ensures.reached files are.beside)

pub returns-clause-faults : goal.returns-clause-faults
returns-clause-faults g c =
    let given = c.in_ok-given.given in
    let asked = c.args.asked.now in
    given_or_refused (AreMiscountedIn (At asked.moment) given.held.rrsets given.said)
    (λ (knowing : Ground (At asked.moment) given.held.rrsets given.said) (error : VerdictError).
    IsRefusedFor (basis_of given.held.rrsets given.anchors asked.moment knowing.meaning) asked.name.now asked.rtype.0 error)
    (IsFirstFaultOfFiles (At asked.moment)) (IsFirstFaultOfName asked.name.now asked.rtype.0 asked.moment) (λ files fault holds. inl holds)
    given c.judge_given.result c.in_ok-given.ensures.faults c.given_in.ensures.questions
    (λ files are. none_given (At asked.moment) files (c.in_ok-given.ensures.given files are))
    (λ knowing files error are refused. inr (stopped_there asked.name.now asked.rtype.0 asked.moment files
    (all_given (At asked.moment) files (c.in_ok-given.ensures.given files are.beside) knowing.meaning knowing.numbers knowing.knows) error refused))
    c.judge_given.ensures.only

pub returns-clause-text : goal.returns-clause-text
returns-clause-text g c = λ files are.
    all_checked c.args.telling.format c.args.telling.why c.args.asked.now.name.now c.args.asked.now.rtype.0 c.args.asked.now.moment files
    (c.in_ok-given.ensures.given files are.beside) c.judge_given.result c.judge_given.ensures.verdict

pub returns-clause-reached : goal.returns-clause-reached
returns-clause-reached g c = λ files are.
    ungiven_read (AreMiscountedIn (At c.args.asked.now.moment) c.in_ok-given.given.held.rrsets c.in_ok-given.given.said) _ (IsReachedOfFiles (At c.args.asked.now.moment) files) c.judge_given.result
    c.judge_given.ensures.only

pub returns-clause-unwritten : goal.returns-clause-unwritten
returns-clause-unwritten g c =
    ungiven_writes (AreMiscountedIn (At c.args.asked.now.moment) c.in_ok-given.given.held.rrsets c.in_ok-given.given.said) _ c.judge_given.result c.judge_given.ensures.only

pub returns-clause-unrefused : goal.returns-clause-unrefused
returns-clause-unrefused g c =
    judged_unrefused c.args.telling.format c.args.telling.why c.args.asked.now.name.now c.args.asked.now.rtype.0 c.args.asked.now.moment c.in_ok-given.given.held.rrsets
    c.in_ok-given.given.anchors c.in_ok-given.given.said c.judge_given.result c.judge_given.ensures.verdict
