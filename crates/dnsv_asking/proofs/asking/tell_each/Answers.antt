use Rattle.std.proofs.Common.{◌≡◌, ◌∙◌, ap, subst, sym}
use Rattle.std.proofs.lemmas.Result.{err_from_is_err_and}
use Rattle.dnsv_chain.specs.Basis.{IsCaseOf, Basis}
use Rattle.dnsv_asking.specs.Judging.{case_of, tells_why}
use Rattle.dnsv_asking.specs.declared.judging.Judging.{Judging}
use Rattle.dnsv_asking.proofs.AskingLemmas.Steps.{ToldSoFar-all, ToldSoFar-begun, ToldSoFar-next, ToldSoFar-whole}
use Rattle.dnsv_asking.proofs.asking.tell_each.Goals as goal

-- each question finds the case of the first
still_of : (basis : Basis) (first now : Judging) → now ≡ first → IsCaseOf basis (case_of first) → IsCaseOf basis (case_of now)
still_of basis first now same is = subst (λ (judge : Judging). IsCaseOf basis (case_of judge)) (sym same) is

pub tell_one-requires : goal.tell_one-requires
tell_one-requires g c = record { why = ap tells_why c.loop-question.invariant.2 ∙ c.requires.why }

pub loop-question-preserved : goal.loop-question-preserved
loop-question-preserved g c = (
  λ basis is same at.
      ToldSoFar-next c.args.reporting.now.telling.format c.args.reporting.now.telling.why c.args.reporting.now.numbers.now basis c.args.questions.now
      c.loop-question.question-index c.loop-question.end c.in_ok-told.told c.worse-end.result _ _ _ c.question-item.result c.loop-question-test.true (sym c.question-item.is) (c.loop-question.invariant.0 basis is same at)
      (c.in_ok-told.ensures.done basis (still_of basis c.args.judge.now c.loop-question.judge c.loop-question.invariant.2 is) same at) c.worse-end.ensures.one c.worse-end.ensures.greatest,
  c.in_ok-told.ensures.calm ∙ c.loop-question.invariant.1,
  c.in_ok-told.ensures.same ∙ c.loop-question.invariant.2,
)

pub returns-in_err-told-clause-begun : goal.returns-in_err-told-clause-begun
returns-in_err-told-clause-begun g c = λ basis is same at.
    let p = err_from_is_err_and c.from_residual.result c.from_residual.ensures.1 in
    rw (p.1, p.2) (λ failed.
    let begun = c.in_err-told.ensures.begun basis (still_of basis c.args.judge.now c.loop-question.judge c.loop-question.invariant.2 is) same at failed in
    ToldSoFar-begun c.args.reporting.now.telling.format c.args.reporting.now.telling.why c.args.reporting.now.numbers.now basis c.args.questions.now
    c.loop-question.question-index c.loop-question.end begun.0 _ _ _ c.question-item.result c.loop-question-test.true (sym c.question-item.is) (c.loop-question.invariant.0 basis is same at) begun.1 begun.2 begun.3)

pub returns-in_err-told-clause-whole : goal.returns-in_err-told-clause-whole
returns-in_err-told-clause-whole g c = λ basis is same at.
    let p = err_from_is_err_and c.from_residual.result c.from_residual.ensures.1 in
    rw (p.1, p.2) (λ memory.
    rw (c.in_err-told.ensures.untouched memory) (ToldSoFar-whole c.args.reporting.now.telling.format c.args.reporting.now.telling.why
    c.args.reporting.now.numbers.now basis c.args.questions.now c.loop-question.question-index c.loop-question.end _ _ c.loop-question-test.true (c.loop-question.invariant.0 basis is same at)))

pub returns-clause-done : goal.returns-clause-done
returns-clause-done g c = λ basis is same at.
    ToldSoFar-all c.args.reporting.now.telling.format c.args.reporting.now.telling.why c.args.reporting.now.numbers.now basis c.args.questions.now
    c.loop-question.question-index c.loop-question.end _ _ c.loop-question-test.false (c.loop-question.invariant.0 basis is same at)
