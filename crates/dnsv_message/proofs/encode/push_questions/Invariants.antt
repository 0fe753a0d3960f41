use Rattle.std.proofs.Common.{◌≡◌, ◌++◌, flat_map, take}
use Rattle.dnsv_message.specs.Encoding.{question_octets}
use Rattle.dnsv_message.proofs.encode.push_questions.Given as goal

-- some questions are written
abbrev pub invariant-loop-question : goal.invariant-loop-question
invariant-loop-question l = l.octets.items ≡ l.fn.octets.items ++ flat_map question_octets (take l.question-index l.questions)
