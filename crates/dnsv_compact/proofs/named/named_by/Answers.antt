use Rattle.std.proofs.lemmas.List.Filters.{dedup_is}
use Rattle.dnsv_compact.proofs.NamedLemmas.{are_named}
use Rattle.dnsv_compact.proofs.named.named_by.Goals as goal

pub returns : goal.returns
returns c =
    are_named c.args.places.now c.in_ok-named.named.items c.sort_unstable.new.self.items c.dedup.new.self.items c.in_ok-named.ensures
    c.sort_unstable.ensures.permutation c.sort_unstable.ensures.sorted (dedup_is _ _ _ c.dedup.ensures.filtered)
