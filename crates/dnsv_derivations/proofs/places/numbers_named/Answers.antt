use Rattle.std.proofs.lemmas.List.Filters.{dedup_is}
use Rattle.dnsv_derivations.proofs.lemmas.PlaceLemmas.{each_once, once_rising}
use Rattle.dnsv_derivations.proofs.places.numbers_named.Goals as goal

pub returns-clause-rising : goal.returns-clause-rising
returns-clause-rising c =
    once_rising c.sort_unstable.new.self.items c.dedup.new.self.items c.sort_unstable.ensures.sorted
    (dedup_is _ _ _ c.dedup.ensures.filtered)

pub returns-clause-members : goal.returns-clause-members
returns-clause-members c =
    each_once c.args.lines.now c.in_ok-numbers.numbers.items c.sort_unstable.new.self.items c.dedup.new.self.items
    c.in_ok-numbers.ensures c.sort_unstable.ensures.permutation (dedup_is _ _ _ c.dedup.ensures.filtered)
