use Rattle.std.proofs.Common.{List, subst}
use Rattle.std.proofs.lemmas.Cmp.{nat_cmp_total, nat_eq_equiv}
use Rattle.std.proofs.lemmas.List.Filters.{dedup_is}
use Rattle.std.proofs.lemmas.List.Kept.{Contains-dedup_nat, Contains-from_dedup, IsStrictlySortedBy-dedup}
use Rattle.std.proofs.lemmas.List.Sorted.{Contains-permutation, IsPermutation-sym}
use Rattle.std.specs.Cmp.{unsigned_ties}
use Rattle.std.specs.List.Sorted.{IsPermutation}
use Rattle.std.specs.Prelude.{Contains, nat_eq}
use Rattle.dnsv_proof_forms.proofs.order.rising.Goals as goal

pub returns-clause-order : goal.returns-clause-order
returns-clause-order c =
    rw (dedup_is _ _ _ c.dedup.ensures.filtered) (IsStrictlySortedBy-dedup nat_cmp_total unsigned_ties c.sort_unstable.new.self.items c.sort_unstable.ensures.sorted)

pub returns-clause-members : goal.returns-clause-members
returns-clause-members c =
    let moved = subst (λ xs. IsPermutation xs c.sort_unstable.new.self.items) c.in_ok-ordered.ensures.items c.sort_unstable.ensures.permutation in
    λ k. (
      λ there. Contains-permutation c.sort_unstable.new.self.items c.args.numbers.now k (IsPermutation-sym c.args.numbers.now c.sort_unstable.new.self.items moved)
          (Contains-from_dedup nat_eq c.sort_unstable.new.self.items k (subst (λ xs. Contains xs k) (dedup_is _ _ _ c.dedup.ensures.filtered) there)),
      λ there. rw (dedup_is _ _ _ c.dedup.ensures.filtered) (Contains-dedup_nat c.sort_unstable.new.self.items k
          (Contains-permutation c.args.numbers.now c.sort_unstable.new.self.items k moved there)),
    )
