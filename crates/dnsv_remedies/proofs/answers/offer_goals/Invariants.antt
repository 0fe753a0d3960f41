use Rattle.std.proofs.Common.{◌≡◌, drop, flat_map, map}
use Rattle.std.specs.Option.{option_map}
use Rattle.dnsv_mending.specs.Level.{seen_level}
use Rattle.dnsv_mending.specs.Mend as mend
use Rattle.dnsv_remedies.specs.Answers.{goal_ways}
use Rattle.dnsv_remedies.specs.Remedy.{least_from, seen}
use Rattle.dnsv_remedies.proofs.answers.offer_goals.Given as goal

-- those that are left, after what was offered
abbrev pub invariant-loop-goal : goal.invariant-loop-goal
invariant-loop-goal l = least_from (option_map seen l.best) (flat_map (goal_ways (map seen_level l.levels) (option_map (λ m. mend.seen m.now) l.above) l.is_below_dname) (drop l.goal-index l.goals))
    ≡ least_from (option_map seen l.fn.best) (flat_map (goal_ways (map seen_level l.levels) (option_map (λ m. mend.seen m.now) l.above) l.is_below_dname) l.goals)
