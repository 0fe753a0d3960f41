use Rattle.std.proofs.lemmas.Result.{on_ok_weaker}
use Rattle.dnsv_timeline.proofs.PointLemmas.{both_change, none_changes}
use Rattle.dnsv_timeline.proofs.points.push_changes.Goals as goal

pub returns : goal.returns
returns c =
    on_ok_weaker c.push_behind-2.result
    (both_change c.args.range.from c.args.range.to c.args.times c.in-Some.window.start c.in-Some.window.end c.args.moments.now.items c.push_behind.new.moments.items c.push_behind-2.new.moments.items
    c.seconds_since-since.result c.from.result c.from.ensures.range c.in-Some.ensures c.seconds_since-since.ensures c.from.ensures.value
    c.in_ok-push_behind.ensures) c.push_behind-2.ensures
