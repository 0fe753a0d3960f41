use Rattle.std.proofs.Common.{inl, refl}
use Rattle.dnsv_derivations.proofs.places.push_place.Goals as goal

pub returns-in_default : goal.returns-in_default
returns-in_default c = inl (c.in_default.ensures, refl)
