use Rattle.std.proofs.Common.{◌+◌}
use Rattle.dnsv_gaps.specs.Asking.{asking}
use Rattle.dnsv_gaps.proofs.QuestionLemmas.GoalLemmas.{AreGoalsTo}
use Rattle.dnsv_gaps.proofs.question.goals.goals.Given as goal

-- those of the RRsets so far
abbrev pub invariant-loop-place : goal.invariant-loop-place
invariant-loop-place l = AreGoalsTo (asking l.question) (l.place + 1) l.goals.items
