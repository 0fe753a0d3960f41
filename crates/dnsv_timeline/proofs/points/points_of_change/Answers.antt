use Rattle.std.proofs.lemmas.List.Filters.{dedup_is}
use Rattle.dnsv_timeline.proofs.PointLemmas.{in_order}
use Rattle.dnsv_timeline.proofs.points.points_of_change.Goals as goal

pub returns : goal.returns
returns c =
    in_order c.args.range.from c.args.range.to c.args.signatures.now c.in_ok-moments.moments.items c.sort_unstable.new.self.items c.dedup.new.self.items
    c.in_ok-moments.ensures c.sort_unstable.ensures.permutation c.sort_unstable.ensures.sorted (dedup_is _ _ _ c.dedup.ensures.filtered)
