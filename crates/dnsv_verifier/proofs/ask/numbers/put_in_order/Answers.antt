use Rattle.std.proofs.lemmas.List.Filters.{dedup_is}
use Rattle.dnsv_verifier.proofs.NumberLemmas.{kept_numbers, rising_numbers, same_numbers}
use Rattle.dnsv_verifier.proofs.ask.numbers.put_in_order.Goals as goal

pub returns-clause-rising : goal.returns-clause-rising
returns-clause-rising c =
    rising_numbers c.sort_unstable.new.self.items c.dedup.new.self.items c.sort_unstable.ensures.sorted (dedup_is _ _ _ c.dedup.ensures.filtered)

pub returns-clause-same : goal.returns-clause-same
returns-clause-same c =
    same_numbers c.args.numbers.now.items c.sort_unstable.new.self.items c.dedup.new.self.items c.sort_unstable.ensures.permutation
    (kept_numbers c.sort_unstable.new.self.items c.dedup.new.self.items (dedup_is _ _ _ c.dedup.ensures.filtered))
