use Rattle.std.proofs.Common.{map}
use Rattle.dnsv_mending.specs.Level.{seen_level}
use Rattle.dnsv_remedies.specs.Cuts.{parent_ways}
use Rattle.dnsv_remedies.proofs.Lists.{offered_next}
use Rattle.dnsv_remedies.proofs.cuts.offer_parents.Goals as goal

pub loop-parent-preserved : goal.loop-parent-preserved
loop-parent-preserved c =
    offered_next (parent_ways (map seen_level c.args.levels.now))
    c.args.parents.now c.loop-parent.parent-index _ _ _ _ _ c.loop-parent-test.true c.parent-item.is
    c.in_ok-offer_parent.ensures c.loop-parent.invariant
