use Rattle.std.proofs.Common.{inl, inr, string_bytes}
use Rattle.std.proofs.lemmas.Result.{err_from_is_err_and}
use Rattle.dnsv_answers.specs.declared.heading.Moments.TheVariants.{Between}
use Rattle.dnsv_moments.specs.Question.{IsRefusedThroughout}
use Rattle.dnsv_chain.specs.Basis.{basis_of}
use Rattle.dnsv_verdict.specs.declared.error.VerdictError.{VerdictError}
use Rattle.dnsv_work.specs.Faults.{IsFirstFaultOfFiles}
use Rattle.dnsv_program.specs.Run.{IsFirstFaultThroughout}
use Rattle.dnsv_work.specs.Reached.{IsReachedOfFiles}
use Rattle.dnsv_work.specs.Known.{AreMiscountedIn, Ground}
use Rattle.dnsv_files.proofs.FileLemmas.Faults.{beside_passed, with_questions}
use Rattle.dnsv_asking.proofs.JudgedLemmas.{given_or_refused, ungiven_read, ungiven_writes}
use Rattle.dnsv_work.proofs.WorkLemmas.InOrder.{none_given}
use Rattle.dnsv_program.proofs.WorkLemmas.Timeline.{all_timed, stopped_throughout}
use Rattle.dnsv_program.proofs.work.timeline.timeline_in.Goals as goal

pub returns-in_err-given-clause-faults : goal.returns-in_err-given-clause-faults
returns-in_err-given-clause-faults g c =
    let p = err_from_is_err_and c.from_residual.result c.from_residual.ensures.1 in
    let question = c.args.question.now in
    let moments = Between question.range.from question.range.to in
    rw (p.1, p.2) (with_questions (IsFirstFaultOfFiles moments) (IsFirstFaultThroughout question.name.now question.rtype.0 question.range.from question.range.to) _
    (λ files fault holds. inl holds) c.given_in.ensures.questions (beside_passed c.in_err-given.field-0.0 c.in_err-given.ensures.faults))

pub returns-in_err-given-clause-reached : goal.returns-in_err-given-clause-reached
returns-in_err-given-clause-reached g c = λ files are.
    let p = err_from_is_err_and c.from_residual.result c.from_residual.ensures.1 in
    rw (p.1, p.2) (c.in_err-given.ensures.reached files are.beside)

pub returns-clause-faults : goal.returns-clause-faults
returns-clause-faults g c =
    let given = c.in_ok-given.given in
    let question = c.args.question.now in
    let from = question.range.from in
    let to = question.range.to in
    given_or_refused (AreMiscountedIn (Between from to) given.held.rrsets given.said)
    (λ (knowing : Ground (Between from to) given.held.rrsets given.said) (error : VerdictError).
    IsRefusedThroughout (basis_of given.held.rrsets given.anchors from knowing.meaning) from to question.name.now question.rtype.0 error)
    (IsFirstFaultOfFiles (Between from to)) (IsFirstFaultThroughout question.name.now question.rtype.0 from to) (λ files fault holds. inl holds)
    given c.timeline_by.result c.in_ok-given.ensures.faults c.given_in.ensures.questions
    (λ files are. none_given (Between from to) files (c.in_ok-given.ensures.given files are))
    (λ knowing files error are refused. inr (stopped_throughout question.name.now question.rtype.0 from to files (c.in_ok-given.ensures.given files are.beside) knowing error refused))
    c.timeline_by.ensures.only

pub returns-clause-text : goal.returns-clause-text
returns-clause-text g c = λ files are.
    let question = c.args.question.now in
    all_timed question.name.now question.rtype.0 question.range.from question.range.to files (c.in_ok-given.ensures.given files are.beside) c.args.showing.format c.args.showing.kinds
    (λ text. string_bytes text) c.timeline_by.result c.timeline_by.ensures.text

pub returns-clause-reached : goal.returns-clause-reached
returns-clause-reached g c = λ files are.
    let moments = Between c.args.question.now.range.from c.args.question.now.range.to in
    ungiven_read (AreMiscountedIn moments c.in_ok-given.given.held.rrsets c.in_ok-given.given.said) _ (IsReachedOfFiles moments files) c.timeline_by.result
    c.timeline_by.ensures.only

pub returns-clause-unwritten : goal.returns-clause-unwritten
returns-clause-unwritten g c =
    ungiven_writes (AreMiscountedIn (Between c.args.question.now.range.from c.args.question.now.range.to) c.in_ok-given.given.held.rrsets c.in_ok-given.given.said) _ c.timeline_by.result
    c.timeline_by.ensures.only
