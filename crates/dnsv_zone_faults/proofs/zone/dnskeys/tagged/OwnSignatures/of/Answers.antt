use Rattle.std.proofs.Common.{rules}
use Rattle.std.proofs.lemmas.Cmp.{nat_cmp_total}
use Rattle.std.proofs.lemmas.Fn.{always_returns_same}
use Rattle.std.proofs.lemmas.List.Sorted.{Contains-permutation, IsPermutation-sym, ranks_by}
use Rattle.std.specs.Ordering.{is_lt, nat_cmp}
use Rattle.dnsv_zone_faults.specs.Dnskeys.OwnSearch.{tag_of_own}
use Rattle.dnsv_zone_faults.proofs.zone.dnskeys.tagged.OwnSignatures.of.Goals as goal

pub invariant_of-result : goal.invariant_of-result
invariant_of-result c =
    c.sort_unstable_by.ensures.sorted (λ x y. is_lt (nat_cmp (tag_of_own x) (tag_of_own y))) (ranks_by nat_cmp_total tag_of_own)
    (always_returns_same _ _ _ (λ a r f called. search rules))

pub returns : goal.returns
returns c = λ each.
    let moved = c.sort_unstable_by.ensures.permutation in
    (λ there. Contains-permutation _ _ each (IsPermutation-sym _ _ moved) there, λ there. Contains-permutation _ _ each moved there)
