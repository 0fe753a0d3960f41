use Rattle.std.proofs.lemmas.List.Filters.{dedup_is}
use Rattle.std.proofs.lemmas.List.Kept.{Contains-from_dedup}
use Rattle.std.proofs.lemmas.List.Sorted.{IsPermutation-sym, Contains-permutation}
use Rattle.dnsv_canonical.proofs.CanonicalLemmas.{IsCanonical-sorted}
use Rattle.dnsv_canonical.proofs.OrderLemmas.{each_member}
use Rattle.dnsv_rrsets.proofs.canonical_order.put_in_order.Goals as goal

pub returns-clause-order : goal.returns-clause-order
returns-clause-order g c =
    IsCanonical-sorted (λ each. each.rdata.now) _ _ _ c.sort_unstable.ensures.permutation c.sort_unstable.ensures.sorted (dedup_is _ _ _ c.dedup.ensures.filtered)

pub returns-clause-kept : goal.returns-clause-kept
returns-clause-kept g c =
    each_member _ _ (λ each there.
    Contains-permutation _ _ each (IsPermutation-sym _ _ c.sort_unstable.ensures.permutation)
    (Contains-from_dedup _ _ each (rw (dedup_is _ _ _ c.dedup.ensures.filtered) at there)))
