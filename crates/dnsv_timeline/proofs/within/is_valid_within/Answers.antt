use Rattle.dnsv_timeline.proofs.WithinLemmas.{within_by}
use Rattle.dnsv_timeline.proofs.within.is_valid_within.Goals as goal

pub returns : goal.returns
returns c =
    within_by c.args.times c.in-Some.window.start c.in-Some.window.end c.args.range.from c.args.range.to c.seconds_since-since.result c.from.result
    c.to.result c.from-2.result c.is_met.result c.from.ensures.range c.in-Some.ensures c.from.ensures.value c.seconds_since-since.ensures
    c.to.ensures.value c.from-2.ensures.value c.is_met.ensures
