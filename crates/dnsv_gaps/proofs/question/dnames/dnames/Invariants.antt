use Rattle.std.proofs.Common.{◌≡◌}
use Rattle.std.specs.List.{flat_map, range_with_len}
use Rattle.dnsv_gaps.specs.questions.Dnames.{dname_at}
use Rattle.dnsv_gaps.proofs.question.dnames.dnames.Given as goal

-- those of the names so far
abbrev pub invariant-loop-labels : goal.invariant-loop-labels
invariant-loop-labels l =
    l.dnames.items ≡ flat_map (dname_at l.question.facts.now.rrsets l.question.name.now) (range_with_len 0 l.labels)
