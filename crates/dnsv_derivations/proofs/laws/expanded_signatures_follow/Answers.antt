use Rattle.dnsv_derivations.proofs.lemmas.denials.FollowLemmas.{expanded_follows}
use Rattle.dnsv_derivations.proofs.laws.expanded_signatures_follow.Goals as goal

pub returns : goal.returns
returns c = λ setting name number shown before lines is told. expanded_follows setting name number shown before lines is told
