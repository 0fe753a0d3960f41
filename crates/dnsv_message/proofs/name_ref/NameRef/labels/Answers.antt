use Rattle.std.proofs.Common.{arith}
use Rattle.dnsv_message.proofs.FollowLemmas.{at_most_127}
use Rattle.dnsv_message.proofs.name_ref.NameRef.labels.Goals as goal

pub returns-clause-at_most_127 : goal.returns-clause-at_most_127
returns-clause-at_most_127 c = omega (arith, c.label_count.ensures, at_most_127 _ _ c.self.invariant.0.named)
