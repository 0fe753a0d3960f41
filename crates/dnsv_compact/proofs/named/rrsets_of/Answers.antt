use Rattle.std.proofs.lemmas.List.Filters.{dedup_is}
use Rattle.dnsv_compact.proofs.NamedLemmas.{are_rrsets}
use Rattle.dnsv_compact.proofs.named.rrsets_of.Goals as goal

pub returns : goal.returns
returns c =
    are_rrsets c.args.places.now c.in_ok-rrsets.rrsets.items c.sort_unstable.new.self.items c.dedup.new.self.items c.in_ok-rrsets.ensures
    c.sort_unstable.ensures.permutation c.sort_unstable.ensures.sorted (dedup_is _ _ _ c.dedup.ensures.filtered)
