use Rattle.std.proofs.lemmas.List.Filters.{dedup_is}
use Rattle.dnsv_compact.proofs.KeyLemmas.{are_keys}
use Rattle.dnsv_compact.proofs.key.keys_of.Goals as goal

pub returns : goal.returns
returns c =
    are_keys c.args.entries.now c.in_ok-keys.keys.items c.sort_unstable.new.self.items c.dedup.new.self.items c.in_ok-keys.ensures
    c.sort_unstable.ensures.permutation c.sort_unstable.ensures.sorted (dedup_is _ _ _ c.dedup.ensures.filtered)
