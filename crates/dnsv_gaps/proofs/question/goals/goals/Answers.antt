use Rattle.std.proofs.Common.{◌+◌, arith, length, ◌∙◌, ap}
use Rattle.dnsv_remedies.specs.declared.facts.answer.GoalFacts.{GoalFacts}
use Rattle.dnsv_gaps.specs.Asking.{asking}
use Rattle.dnsv_gaps.specs.questions.Goals.{AreGoalFacts, IsGoalNumber}
use Rattle.dnsv_gaps.proofs.QuestionLemmas.GoalLemmas.{all_goals, no_goal_yet, numbered_next}
use Rattle.dnsv_gaps.proofs.QuestionLemmas.ListingLemmas.{one_more}
use Rattle.dnsv_gaps.proofs.question.goals.goals.Goals as goal

pub loop-place-init : goal.loop-place-init
loop-place-init c = no_goal_yet (asking c.args.question.now) c.new-goals.result.items c.new-goals.ensures.items

pub add_goal-requires-clause-numbered : goal.add_goal-requires-clause-numbered
add_goal-requires-clause-numbered c =
    numbered_next c.args.question.now.facts.now.rrsets c.rrsets-rrset-items.result.now c.loop-place.place c.rrset-item.result
    (c.rrsets-rrset-items.ensures.value ∙ c.capture.ensures) c.loop-place-test.true c.rrset-item.is

pub loop-place-preserved : goal.loop-place-preserved
loop-place-preserved c =
    let a = asking c.args.question.now in
    one_more (λ (goal : GoalFacts). goal.number) (IsGoalNumber a) (AreGoalFacts a) (c.loop-place.place + 1) c.loop-place.goals.items _
    c.loop-place.invariant c.in_ok-add_goal.ensures

pub returns : goal.returns
returns c =
    all_goals (asking c.args.question.now) c.loop-place.place c.loop-place.goals.items
    (let past = c.loop-place-test.false in
    let size = ap length (c.rrsets-rrset-items.ensures.value ∙ c.capture.ensures) in omega (arith, past, size))
    c.loop-place.invariant
