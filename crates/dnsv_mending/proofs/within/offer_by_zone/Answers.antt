use Rattle.std.proofs.Common.{map}
use Rattle.dnsv_mending.specs.Level.{seen_level}
use Rattle.dnsv_mending.specs.Within.{zone_signature_ways}
use Rattle.dnsv_mending.proofs.Lists.{offered_next}
use Rattle.dnsv_mending.proofs.within.offer_by_zone.Goals as goal

pub loop-signature-preserved : goal.loop-signature-preserved
loop-signature-preserved c =
    offered_next (zone_signature_ways (map seen_level c.args.levels.now) c.args.zone) c.args.signatures.now c.loop-signature.signature-index _ _ _ _ _
    c.loop-signature-test.true c.signature-item.is c.in_ok-offer_one_by_zone.ensures c.loop-signature.invariant
