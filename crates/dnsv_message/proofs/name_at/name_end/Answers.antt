use Rattle.std.proofs.lemmas.Result.{err_from_is_err_and}
use Rattle.dnsv_message.specs.NameAt.{here}
use Rattle.dnsv_message.proofs.NameLaws.NameWalk.{step_is, end_within, Walked-by_pointer, Walked-sized, sized_name}
use Rattle.dnsv_message.proofs.name_at.name_end.Goals as goal

pub returns-in_err-step_at-clause-fault : goal.returns-in_err-step_at-clause-fault
returns-in_err-step_at-clause-fault c =
    let p = err_from_is_err_and c.from_residual.result c.from_residual.ensures.1 in
    rw (p.1, p.2) (c.steps.invariant.2.fault (here (rw c.steps.invariant.1 at c.in_err-step_at.ensures.fault)))

pub steps-preserved-in-Label : goal.steps-preserved-in-Label
steps-preserved-in-Label c =
    Walked-sized c.steps.walk c.steps.size c.in-Label.length c.steps.invariant.2 (step_is _ _ _ c.in-Label.is c.in_ok-step_at.ensures.step) c.steps.invariant.1

pub steps-preserved : goal.steps-preserved
steps-preserved c = (
  c.steps.invariant.0,
  c.steps.invariant.1,
  Walked-by_pointer c.steps.walk c.steps.size c.in-Pointer.target _ c.steps.invariant.2 (step_is _ _ _ c.in-Pointer.is c.in_ok-step_at.ensures.step) c.or-after.ensures,
)

pub returns-clause-found : goal.returns-clause-found
returns-clause-found c =
    sized_name c.steps.walk c.steps.size c.unwrap_or.result c.steps.invariant.2 (step_is _ _ _ c.in-Root.is c.in_ok-step_at.ensures.step) c.steps.invariant.1 c.unwrap_or.ensures

pub returns-clause-within : goal.returns-clause-within
returns-clause-within c = end_within _ _ _ _ _ _ (returns-clause-found c).1.0
