use Rattle.std.proofs.Common.{[], ◌∷◌, refl}
use Rattle.dnsv_tsig.proofs.key_ring.two_fields.Goals as goal

pub returns-in_default : goal.returns-in_default
returns-in_default c = λ text coded are. c.in_default.ensures.none (text ∷ coded ∷ []) are refl
