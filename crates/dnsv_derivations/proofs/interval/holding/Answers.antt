use Rattle.dnsv_derivations.proofs.lemmas.intervals.HoldingLemmas.{holding_at}
use Rattle.dnsv_derivations.proofs.interval.holding.Goals as goal

pub loop-times-preserved : goal.loop-times-preserved
loop-times-preserved c =
    holding_at c.args.signatures.now c.loop-times.times-index _ c.args.moment c.loop-times.interval c.reach.result c.within-interval.result c.loop-times-test.true c.ranges.moment.fits c.requires c.loop-times.invariant c.reach.ensures c.within-interval.ensures.from c.within-interval.ensures.to
