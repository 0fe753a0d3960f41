use Rattle.std.proofs.Common.{map}
use Rattle.dnsv_mending.specs.Level.{seen_level}
use Rattle.dnsv_remedies.specs.Cuts.{cut_ways}
use Rattle.dnsv_remedies.proofs.Lists.{offered_next}
use Rattle.dnsv_remedies.proofs.cuts.offer_cuts.Goals as goal

pub loop-cut-preserved : goal.loop-cut-preserved
loop-cut-preserved c =
    offered_next (cut_ways (map seen_level c.args.levels.now) c.args.parent.now)
    c.args.cuts.now c.loop-cut.cut-index _ _ _ _ _ c.loop-cut-test.true c.cut-item.is
    c.in_ok-offer_cut.ensures c.loop-cut.invariant
