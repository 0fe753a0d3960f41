-- What several verifiers say together.
use Rattle.std.specs.Prelude.{List, [], ◌∷◌}
use Rattle.dnsv_verifier.specs.declared.answer.Answer.{Answer}
use Rattle.dnsv_verifier.specs.declared.answer.Answer.TheVariants.{Valid, Invalid, Unknown}

-- one answer more, in front of what the others say together
abbrev pub joined : Answer → Answer → Answer
joined Invalid others = Invalid
joined Unknown others = others
joined Valid Invalid = Invalid
joined Valid Valid = Valid
joined Valid Unknown = Valid

-- Invalid where an answer is, else Valid where an answer is, else Unknown
abbrev pub joint_answer : List Answer → Answer
joint_answer [] = Unknown
joint_answer (answer ∷ answers) = joined answer (joint_answer answers)
