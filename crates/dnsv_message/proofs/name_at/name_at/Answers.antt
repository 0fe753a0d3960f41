use Rattle.std.proofs.Common.{◌∙◌, refl, arith}
use Rattle.std.proofs.lemmas.Result.{err_from_is_err_and, IfOk-at_ok}
use Rattle.dnsv_message.specs.NameAt.{here}
use Rattle.dnsv_message.proofs.NameLaws.NameWalk.{step_is, label_part, Walked-by_label, Walked-by_pointer, name_found, name_returned, end_within}
use Rattle.dnsv_message.proofs.name_at.name_at.Goals as goal

pub returns-in_err-step_at-clause-fault : goal.returns-in_err-step_at-clause-fault
returns-in_err-step_at-clause-fault c =
    let p = err_from_is_err_and c.from_residual.result c.from_residual.ensures.1 in
    rw (p.1, p.2) (c.steps.invariant.fault (here (rw c.len.ensures.value at c.in_err-step_at.ensures.fault)))

pub slice_bounds-try_extend_from_slice-end : goal.slice_bounds-try_extend_from_slice-end
slice_bounds-try_extend_from_slice-end c =
    omega (arith, (label_part _ c.steps.walk c.len.result c.in-Label.length (step_is _ _ _ c.in-Label.is c.in_ok-step_at.ensures.step)).0)

pub steps-preserved-in-Label : goal.steps-preserved-in-Label
steps-preserved-in-Label c =
    Walked-by_label c.steps.walk _ c.in-Label.length _ c.steps.invariant (step_is _ _ _ c.in-Label.is c.in_ok-step_at.ensures.step) c.len.ensures.value
    (IfOk-at_ok _ c.unwrap.ensures c.try_extend_from_slice.ensures.ok)

pub steps-preserved : goal.steps-preserved
steps-preserved c =
    Walked-by_pointer c.steps.walk c.len.result c.in-Pointer.target _ c.steps.invariant (step_is _ _ _ c.in-Pointer.is c.in_ok-step_at.ensures.step) c.or-end.ensures

pub unwrap-name-requires : goal.unwrap-name-requires
unwrap-name-requires c =
    let found = name_found c.steps.walk c.len.result c.steps.invariant (step_is _ _ _ c.in-Root.is c.in_ok-step_at.ensures.step) c.deref.result.now (c.deref.ensures.0 ∙ c.push.ensures.items) c.read.result c.read.ensures.every in
    rw found.1 refl

pub returns-clause-found : goal.returns-clause-found
returns-clause-found c =
    let found = name_found c.steps.walk c.len.result c.steps.invariant (step_is _ _ _ c.in-Root.is c.in_ok-step_at.ensures.step) c.deref.result.now (c.deref.ensures.0 ∙ c.push.ensures.items) c.read.result c.read.ensures.every in
    name_returned c.read.result _ c.unwrap-name.result c.unwrap_or.result found.1 c.unwrap-name.ensures c.unwrap_or.ensures found.2

pub returns-clause-within : goal.returns-clause-within
returns-clause-within c = end_within _ _ _ _ _ _ (returns-clause-found c).0
