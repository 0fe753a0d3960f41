use Rattle.std.proofs.Common.{◌≡◌, drop}
use Rattle.dnsv_remedies.specs.Question.{once_from}
use Rattle.dnsv_remedies.proofs.telling.push_once.Given as goal

-- those that are left, after those so far
abbrev pub invariant-loop-other : goal.invariant-loop-other
invariant-loop-other l = once_from l.lines.items (drop l.other-index l.others) ≡ once_from l.fn.lines.items l.others
