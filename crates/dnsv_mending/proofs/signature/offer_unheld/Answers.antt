use Rattle.std.proofs.Common.{refl}
use Rattle.dnsv_mending.specs.Level.{seen_level}
use Rattle.dnsv_mending.specs.Rrset.{unheld_ways}
use Rattle.dnsv_mending.proofs.Lists.{offered_next}
use Rattle.dnsv_mending.proofs.signature.offer_unheld.Goals as goal

pub loop-key-preserved : goal.loop-key-preserved
loop-key-preserved c =
    offered_next (unheld_ways (seen_level c.args.level.now) c.args.signature.now) c.args.keys.now c.loop-key.key-index _ _ _ _ _
    c.loop-key-test.true refl c.in_ok-offer_unheld_key.ensures c.loop-key.invariant
