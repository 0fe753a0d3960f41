use Rattle.std.proofs.Common.{map}
use Rattle.dnsv_mending.specs.Level.{seen_level}
use Rattle.dnsv_remedies.specs.Parts.{within_kept}
use Rattle.dnsv_remedies.proofs.Lists.{kept_next}
use Rattle.dnsv_remedies.proofs.parts.offer_each.Goals as goal

pub loop-rrset-preserved : goal.loop-rrset-preserved
loop-rrset-preserved c =
    kept_next (within_kept (map seen_level c.args.levels.now) c.args.zone)
    c.args.rrsets.now c.loop-rrset.rrset-index _ _ _ _ _ c.loop-rrset-test.true c.rrset-item.is
    c.in_ok-offer_one.ensures c.loop-rrset.invariant
