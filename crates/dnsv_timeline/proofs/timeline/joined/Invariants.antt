use Rattle.std.proofs.Common.{◌≡◌}
use Rattle.dnsv_timeline.proofs.JoinLemmas.{IsJoinedTo}
use Rattle.dnsv_timeline.proofs.timeline.joined.Given as goal

-- the timeline up to the last point, its last stretch by itself, and the judge is what it was
abbrev pub invariant-loop-point : goal.invariant-loop-point
invariant-loop-point g l =
    IsJoinedTo (g.J.Judge.says l.fn.judge) l.range.from l.range.to l.points l.point-index l.stretches.items l.last
    × (l.judge ≡ l.fn.judge)
