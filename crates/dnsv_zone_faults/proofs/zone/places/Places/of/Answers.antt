use Rattle.std.proofs.Common.{ℕ, List, sym, subst}
use Rattle.std.proofs.lemmas.List.Filters.{dedup_is}
use Rattle.std.proofs.lemmas.List.Kept.{Contains-dedup_nat, Contains-from_dedup}
use Rattle.std.proofs.lemmas.List.Sorted.{Contains-permutation, IsPermutation-sym}
use Rattle.std.proofs.lemmas.Map.Keys.{IsStrictlyIncreasing-dedup}
use Rattle.std.specs.List.Sorted.{IsStrictlyIncreasing}
use Rattle.std.specs.Prelude.{Contains}
use lib.Dec.{eqb}
use Rattle.dnsv_zone_faults.proofs.zone.places.Places.of.Goals as goal

pub invariant_of-result : goal.invariant_of-result
invariant_of-result c =
    subst IsStrictlyIncreasing (sym (dedup_is _ _ _ c.dedup.ensures.filtered)) (IsStrictlyIncreasing-dedup _ c.sort_unstable.ensures.sorted)

pub returns-clause-rising : goal.returns-clause-rising
returns-clause-rising c =
    subst IsStrictlyIncreasing (sym (dedup_is _ _ _ c.dedup.ensures.filtered)) (IsStrictlyIncreasing-dedup _ c.sort_unstable.ensures.sorted)

pub returns-clause-members : goal.returns-clause-members
returns-clause-members c = λ place.
    let is = dedup_is _ _ _ c.dedup.ensures.filtered in
    let moved = c.sort_unstable.ensures.permutation in (
      λ there. Contains-permutation _ _ place (IsPermutation-sym _ _ moved)
          (Contains-from_dedup eqb _ place (subst (λ (ns : List ℕ). Contains ns place) is there)),
      λ there. subst (λ (ns : List ℕ). Contains ns place) (sym is) (Contains-dedup_nat _ place (Contains-permutation _ _ place moved there)),
    )
