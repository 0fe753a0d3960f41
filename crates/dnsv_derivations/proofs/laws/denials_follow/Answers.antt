use Rattle.dnsv_derivations.proofs.lemmas.denials.FollowLemmas.{denial_follows}
use Rattle.dnsv_derivations.proofs.laws.denials_follow.Goals as goal

pub returns : goal.returns
returns c = λ setting name shown before lines is told. denial_follows setting name shown before lines is told
