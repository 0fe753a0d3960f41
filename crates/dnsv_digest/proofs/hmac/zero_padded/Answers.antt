use Rattle.std.proofs.Common.{arith}
use Rattle.std.proofs.lemmas.List.{drop-replicate}
use Rattle.std.proofs.lemmas.Grind.{common_steps}
use Rattle.dnsv_digest.proofs.hmac.zero_padded.Goals as goal

pub returns : goal.returns
returns c = simp drop-replicate (grind (arith, common_steps))
