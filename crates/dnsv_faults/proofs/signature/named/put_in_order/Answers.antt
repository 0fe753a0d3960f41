use Rattle.std.proofs.Common.{rules}
use Rattle.std.proofs.lemmas.Cmp.{nat_cmp_total}
use Rattle.std.proofs.lemmas.Fn.{always_returns_same, dedup_same}
use Rattle.std.proofs.lemmas.List.Sorted.{ranks_by}
use Rattle.std.specs.Ordering.{is_lt, nat_cmp}
use lib.Dec.{eqb}
use Rattle.dnsv_mending.specs.declared.facts.signature.NamedKey.{NamedKey}
use Rattle.dnsv_faults.proofs.lemmas.NamedLemmas.{place_of, put_in_order}
use Rattle.dnsv_faults.proofs.signature.named.put_in_order.Goals as goal

pub returns : goal.returns
returns c =
    put_in_order place_of _ _ _ c.sort_unstable_by.ensures.permutation
    (c.sort_unstable_by.ensures.sorted (λ x y. is_lt (nat_cmp x.key y.key)) (ranks_by nat_cmp_total place_of)
    (always_returns_same _ _ _ (λ a r f called. search rules)))
    (dedup_same _ (λ (a : NamedKey) (b : NamedKey). eqb a.key b.key) _ (λ x y b f' x' y' k. search rules) _ _ c.dedup_by_key.ensures.filtered)
