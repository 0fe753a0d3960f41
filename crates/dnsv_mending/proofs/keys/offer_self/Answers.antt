use Rattle.std.proofs.Common.{refl}
use Rattle.dnsv_mending.specs.Keys.{self_way}
use Rattle.dnsv_mending.proofs.Lists.{offered_next}
use Rattle.dnsv_mending.proofs.keys.offer_self.Goals as goal

pub loop-signature-preserved : goal.loop-signature-preserved
loop-signature-preserved c =
    offered_next (self_way c.args.key.now) c.args.signatures.now c.loop-signature.signature-index _ _ _ _ _
    c.loop-signature-test.true refl c.in_ok-offer_signature.ensures c.loop-signature.invariant
