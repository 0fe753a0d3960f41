use Rattle.std.proofs.Common.{◌≢◌, [], List, subst}
use Rattle.std.proofs.lemmas.Result.{err_from_is_err_and}
use Rattle.dnsv_names.specs.Lines.{NumberedLine}
use Rattle.dnsv_answers.specs.AnswerFile.{SayAnswers}
use Rattle.dnsv_answers.proofs.AnswerLemmas.{reads_from, reads_one, reads_some, reads_to_end}
use Rattle.dnsv_answers.proofs.answers.answers_in.Goals as goal

pub loop-line-init : goal.loop-line-init
loop-line-init c =
    rw (c.new-said.ensures.items, c.into_iter-line-iterator.ensures.into_iter_gives) (reads_from c.args.lines c.requires)

pub loop-line-preserved : goal.loop-line-preserved
loop-line-preserved c = absurd (reads_one _ _ _ c.loop-line.said.items c.in-Some.line c.in-Some.ensures.steps c.loop-line.invariant c.in_default.ensures)

pub returns-clause-said : goal.returns-clause-said
returns-clause-said c =
    subst (λ (lines : List NumberedLine). SayAnswers lines c.loop-line.said.items) c.into_iter-line-iterator.ensures.into_iter_gives
    (reads_to_end _ _ c.loop-line.said.items c.in-None.ensures.steps.0 c.loop-line.invariant)

pub returns-in_err-push-clause-memory : goal.returns-in_err-push-clause-memory
returns-in_err-push-clause-memory c =
    let p = err_from_is_err_and c.from_residual.result c.from_residual.ensures.1 in
    rw p.1 (subst (λ (lines : List NumberedLine). lines ≢ []) c.into_iter-line-iterator.ensures.into_iter_gives
    (reads_some _ _ _ c.loop-line.said.items c.in-Some.line c.in-Some.ensures.steps c.loop-line.invariant))
