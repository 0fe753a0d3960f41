use Rattle.std.proofs.Common.{arith}
use Rattle.dnsv_timeline.proofs.PointLemmas.{no_points, points_all, points_more}
use Rattle.dnsv_timeline.proofs.points.all_changes.Goals as goal

pub loop-times-init : goal.loop-times-init
loop-times-init c = no_points c.args.range.from c.args.range.to c.new-moments.result.items c.new-moments.ensures.items

pub loop-times-preserved : goal.loop-times-preserved
loop-times-preserved c =
    points_more c.args.range.from c.args.range.to c.args.signatures.now c.loop-times.times-index _ _ _ c.loop-times-test.true c.loop-times.invariant
    c.in_ok-push_changes.ensures

pub returns : goal.returns
returns c =
    points_all c.args.range.from c.args.range.to c.args.signatures.now c.loop-times.times-index c.loop-times.moments.items (omega arith) c.loop-times.invariant
