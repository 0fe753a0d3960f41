use Rattle.std.proofs.Common.{inr, arith}
use Rattle.std.proofs.lemmas.Result.{err_from_is_err_and}
use Rattle.dnsv_message.proofs.Sequences.{Reading-next, Reading-fault, Reading-order}
use Rattle.dnsv_message.proofs.section.questions_at.Goals as goal

pub loop-read-preserved : goal.loop-read-preserved
loop-read-preserved c = (
  rw c.in_ok-push.ensures.items (Reading-next c.loop-read.invariant.0 _ _ c.loop-read-test.true c.in_ok-question.ensures.found),
  (λ within. omega (arith, c.in_ok-question.ensures.found.class.0, c.in_ok-question.ensures.found.ends)),
)

pub returns-in_err-question-clause-fault : goal.returns-in_err-question-clause-fault
returns-in_err-question-clause-fault c =
    let p = err_from_is_err_and c.from_residual.result c.from_residual.ensures.1 in
    rw (p.1, p.2) (inr (Reading-fault c.loop-read.invariant.0 _ c.loop-read-test.true c.in_err-question.ensures.fault))

pub returns-clause-found : goal.returns-clause-found
returns-clause-found c = Reading-order c.loop-read.invariant.0
