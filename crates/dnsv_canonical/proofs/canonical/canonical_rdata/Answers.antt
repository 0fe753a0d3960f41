use Rattle.std.proofs.Common.{ℕ, List, map, Bor, rules}
use Rattle.std.proofs.lemmas.Cmp.{nat_list_cmp_total}
use Rattle.std.proofs.lemmas.Fn.{always_returns_same}
use Rattle.std.proofs.lemmas.List.Filters.{dedup_is}
use Rattle.std.proofs.lemmas.List.Sorted.{ranks_by}
use Rattle.std.specs.Ordering.{is_lt}
use Rattle.dnsv_canonical.specs.Canonical.{rdata_cmp}
use Rattle.dnsv_canonical.proofs.CanonicalLemmas.{IsCanonical-sorted, canonical_unique}
use Rattle.dnsv_canonical.proofs.canonical.canonical_rdata.Goals as goal

pub returns-clause-order : goal.returns-clause-order
returns-clause-order c =
    rw (← c.in_ok-sorted.ensures.items) (IsCanonical-sorted (λ r. r.now) _ _ _ c.sort_unstable_by.ensures.permutation
    (c.sort_unstable_by.ensures.sorted (λ x y. is_lt (rdata_cmp x.now y.now)) (ranks_by nat_list_cmp_total (λ (r : Bor (List ℕ)). r.now)) (always_returns_same _ _ _ (λ a r f called. search rules)))
    (dedup_is _ _ _ c.dedup.ensures.filtered))

pub returns-clause-only : goal.returns-clause-only
returns-clause-only c = λ other is.
    canonical_unique (map (λ r. r.now) c.args.received.now) other _ is
    (rw (← c.in_ok-sorted.ensures.items) (IsCanonical-sorted (λ r. r.now) _ _ _ c.sort_unstable_by.ensures.permutation
    (c.sort_unstable_by.ensures.sorted (λ x y. is_lt (rdata_cmp x.now y.now)) (ranks_by nat_list_cmp_total (λ (r : Bor (List ℕ)). r.now)) (always_returns_same _ _ _ (λ a r f called. search rules)))
    (dedup_is _ _ _ c.dedup.ensures.filtered)))
