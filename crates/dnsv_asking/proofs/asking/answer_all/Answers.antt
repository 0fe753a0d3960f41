use Rattle.std.proofs.Common.{ℕ, List, inl, inr, refl}
use Rattle.std.proofs.lemmas.Result.{err_from_is_err_and}
use Rattle.dnsv_answers.specs.declared.heading.Moments.TheVariants.{At}
use Rattle.dnsv_chain.specs.Basis.{Basis, basis_of}
use Rattle.dnsv_asking.specs.Asking.{AreAnswers}
use Rattle.dnsv_work.specs.Known.{AreMiscountedIn, Ground, numbers_said}
use Rattle.dnsv_files.specs.declared.status.Status.{Status}
use Rattle.dnsv_asking.proofs.AskingLemmas.Files.{told_done, told_only, told_untouched}
use Rattle.dnsv_files.proofs.FileLemmas.Faults.{same_fault}
use Rattle.dnsv_work.proofs.ReachedLemmas.{refused_unwritten}
use Rattle.dnsv_asking.proofs.asking.answer_all.Goals as goal

pub returns-in_err-judge-clause-only : goal.returns-in_err-judge-clause-only
returns-in_err-judge-clause-only g c =
    let p = err_from_is_err_and c.from_residual-in_err-judge.result c.from_residual-in_err-judge.ensures.1 in
    rw (p.1, p.2) (inl c.in_err-judge.ensures.fault)

pub returns-in_err-judge-clause-write : goal.returns-in_err-judge-clause-write
returns-in_err-judge-clause-write g c =
    let p = err_from_is_err_and c.from_residual-in_err-judge.result c.from_residual-in_err-judge.ensures.1 in
    rw (p.1, p.2) (λ failed. absurd (refused_unwritten (AreMiscountedIn (At c.args.moment) c.args.given.now.held.rrsets c.args.given.now.said) c.in_err-judge.field-0.0
    c.in_err-judge.ensures.fault (same_fault failed)))

pub returns-in_err-judge-clause-begun : goal.returns-in_err-judge-clause-begun
returns-in_err-judge-clause-begun g c =
    let p = err_from_is_err_and c.from_residual-in_err-judge.result c.from_residual-in_err-judge.ensures.1 in
    rw (p.1, p.2) (λ failed. absurd (refused_unwritten (AreMiscountedIn (At c.args.moment) c.args.given.now.held.rrsets c.args.given.now.said) c.in_err-judge.field-0.0
    c.in_err-judge.ensures.fault (same_fault failed)))

pub returns-clause-done : goal.returns-clause-done
returns-clause-done g c =
    let given = c.args.given.now in
    let known = c.in_ok-judge.ensures.known in
    let basis : Basis = basis_of given.held.rrsets given.anchors c.args.moment known.0 in
    let knowing : Ground (At c.args.moment) given.held.rrsets given.said = record { meaning = known.0; numbers = numbers_said given.said; knows = known.1 } in
    told_done (λ (each : Ground (At c.args.moment) given.held.rrsets given.said) (end : Status) (text : List ℕ). AreAnswers c.args.telling.format c.args.telling.why each.numbers
    (basis_of given.held.rrsets given.anchors c.args.moment each.meaning) c.args.questions.now end text) knowing _ c.tell_each.result
    (rw c.in_ok-numbers.ensures at (c.tell_each.ensures.done basis known.2 c.rrsets.ensures.value refl))

pub returns-clause-only : goal.returns-clause-only
returns-clause-only g c = told_only (AreMiscountedIn (At c.args.moment) c.args.given.now.held.rrsets c.args.given.now.said) c.tell_each.result c.tell_each.ensures.only

pub returns-clause-begun : goal.returns-clause-begun
returns-clause-begun g c = λ failed.
    let given = c.args.given.now in
    let known = c.in_ok-judge.ensures.known in
    let basis : Basis = basis_of given.held.rrsets given.anchors c.args.moment known.0 in
    let begun = rw c.in_ok-numbers.ensures at (c.tell_each.ensures.begun basis known.2 c.rrsets.ensures.value refl failed) in
    (record { meaning = known.0; numbers = numbers_said given.said; knows = known.1 }, begun.0, begun.1, begun.2, begun.3, begun.4)

pub returns-clause-whole : goal.returns-clause-whole
returns-clause-whole g c = λ memory.
    let given = c.args.given.now in
    let known = c.in_ok-judge.ensures.known in
    let basis : Basis = basis_of given.held.rrsets given.anchors c.args.moment known.0 in
    let whole = rw c.in_ok-numbers.ensures at (c.tell_each.ensures.whole basis known.2 c.rrsets.ensures.value refl memory) in
    inr (record { meaning = known.0; numbers = numbers_said given.said; knows = known.1 }, whole.0, whole.1, whole.2, whole.3, whole.4, whole.5)

pub returns-clause-untouched : goal.returns-clause-untouched
returns-clause-untouched g c = told_untouched _ c.tell_each.result c.tell_each.ensures.only
