use Rattle.dnsv_derivations.proofs.lemmas.derivations.DerivationLemmas.{derivation_follows}
use Rattle.dnsv_derivations.proofs.laws.derivations_follow.Goals as goal

pub returns : goal.returns
returns c = λ setting before lines subject is. derivation_follows setting before subject lines is
