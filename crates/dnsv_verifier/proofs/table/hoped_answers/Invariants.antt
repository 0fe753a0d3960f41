use Rattle.std.proofs.Common.{◌≡◌, map, take}
use Rattle.dnsv_verifier.specs.Table.{hoped_answer}
use Rattle.dnsv_verifier.proofs.table.hoped_answers.Given as goal

-- the hopeful answers so far
abbrev pub invariant-loop-answer : goal.invariant-loop-answer
invariant-loop-answer l = l.hoped.items ≡ map hoped_answer (take l.answer-index l.answers)
