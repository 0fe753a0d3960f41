use Rattle.std.proofs.Common.{◌≡◌, map, take}
use Rattle.dnsv_answers.proofs.answered.said_answers.Given as goal

-- the answers so far
abbrev pub invariant-loop-each : goal.invariant-loop-each
invariant-loop-each l = l.answers.items ≡ map (λ each. each.answer) (take l.each-index l.said)
