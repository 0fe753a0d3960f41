use Rattle.std.proofs.Common.{map}
use Rattle.dnsv_mending.specs.Level.{seen_level}
use Rattle.dnsv_remedies.specs.Sources.{source_ways}
use Rattle.dnsv_remedies.proofs.Lists.{offered_next}
use Rattle.dnsv_remedies.proofs.sources.offer_sources.Goals as goal

pub loop-source-preserved : goal.loop-source-preserved
loop-source-preserved c =
    offered_next (source_ways (map seen_level c.args.levels.now) c.args.labels c.args.zone)
    c.args.sources.now c.loop-source.source-index _ _ _ _ _ c.loop-source-test.true c.source-item.is
    c.in_ok-offer_source.ensures c.loop-source.invariant
