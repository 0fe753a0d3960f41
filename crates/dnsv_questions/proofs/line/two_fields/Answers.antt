use Rattle.std.proofs.Common.{[], ◌∷◌, refl}
use Rattle.dnsv_questions.proofs.line.two_fields.Goals as goal

pub returns-in_default : goal.returns-in_default
returns-in_default c = λ name rtype are. c.in_default.ensures.none (name ∷ rtype ∷ []) are refl
