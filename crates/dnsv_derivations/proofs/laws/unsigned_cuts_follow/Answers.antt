use Rattle.dnsv_derivations.proofs.lemmas.unsigned_cuts.CutFollowLemmas.{cut_follows}
use Rattle.dnsv_derivations.proofs.laws.unsigned_cuts_follow.Goals as goal

pub returns : goal.returns
returns c = λ setting name cut before lines is told. cut_follows setting name cut before lines is told
