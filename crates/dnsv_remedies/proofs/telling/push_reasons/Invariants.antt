use Rattle.std.proofs.Common.{◌≡◌, drop}
use Rattle.dnsv_remedies.specs.Question.{reasons_from}
use Rattle.dnsv_remedies.proofs.telling.push_reasons.Given as goal

-- those that are left, after those so far
abbrev pub invariant-loop-other : goal.invariant-loop-other
invariant-loop-other l = reasons_from l.lines.items (drop l.other-index l.others) ≡ reasons_from l.fn.lines.items l.others
