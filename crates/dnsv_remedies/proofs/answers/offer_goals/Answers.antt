use Rattle.std.proofs.Common.{map}
use Rattle.std.specs.Option.{option_map}
use Rattle.dnsv_mending.specs.Level.{seen_level}
use Rattle.dnsv_mending.specs.Mend as mend
use Rattle.dnsv_remedies.specs.Answers.{goal_ways}
use Rattle.dnsv_remedies.proofs.Lists.{offered_next}
use Rattle.dnsv_remedies.proofs.answers.offer_goals.Goals as goal

pub loop-goal-preserved : goal.loop-goal-preserved
loop-goal-preserved c =
    offered_next (goal_ways (map seen_level c.args.levels.now) (option_map (λ m. mend.seen m.now) c.args.above) c.args.is_below_dname)
    c.args.goals.now c.loop-goal.goal-index _ _ _ _ _ c.loop-goal-test.true c.goal-item.is
    c.in_ok-offer_goal.ensures c.loop-goal.invariant
