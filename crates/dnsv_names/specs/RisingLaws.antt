-- The laws of lists in order, for proofs: comparisons that rise, and what dropping repeats leaves.
use Rattle.std.proofs.Common.{◌≡◌, ◌≤◌, Bool, true, false, cond, List, [], ◌∷◌, map, refl, ap, arith}
use Rattle.std.specs.List.{dedup, dedup_from}
use Rattle.std.specs.Ordering.{is_le, is_lt, ordering_index}
use Rattle.std.specs.declared.cmp.Ordering.{Ordering}
use Rattle.std.specs.declared.cmp.Ordering.TheVariants.{Less, Equal, Greater}

-- what is before, or not behind, has only such in front of it
pub lt_before : (a b : Ordering) → ordering_index a ≤ ordering_index b → is_lt b ≡ true → is_lt a ≡ true
lt_before Less b rises lt = refl
lt_before Equal Less rises lt = absurd (omega (arith, rises))
lt_before Equal Equal rises lt = cc
lt_before Equal Greater rises lt = cc
lt_before Greater Less rises lt = absurd (omega (arith, rises))
lt_before Greater Equal rises lt = cc
lt_before Greater Greater rises lt = cc

pub le_before : (a b : Ordering) → ordering_index a ≤ ordering_index b → is_le b ≡ true → is_le a ≡ true
le_before Less b rises le = refl
le_before Equal b rises le = refl
le_before Greater Less rises le = absurd (omega (arith, rises))
le_before Greater Equal rises le = absurd (omega (arith, rises))
le_before Greater Greater rises le = cc

-- repeats that are dropped by what the elements are
map-dedup_from : {X Y : Type 0} (f : X → Y) (same : Y → Y → Bool) (x : X) (xs : List X) → map f (dedup_from (λ a b. same (f a) (f b)) x xs) ≡ dedup_from same (f x) (map f xs)
map-dedup_from f same x [] = refl
map-dedup_from f same x (y ∷ ys) =
    elim (same (f y) (f x)) as (λ b. map f (cond b (dedup_from (λ a c. same (f a) (f c)) x ys) (x ∷ dedup_from (λ a c. same (f a) (f c)) y ys)) ≡ cond b (dedup_from same (f x) (map f ys)) (f x ∷ dedup_from same (f y) (map f ys))) [
      | true ↦ map-dedup_from f same x ys
      | false ↦ ap (λ t. f x ∷ t) (map-dedup_from f same y ys)
    ]

pub map-dedup : {X Y : Type 0} (f : X → Y) (same : Y → Y → Bool) (xs : List X) → map f (dedup (λ a b. same (f a) (f b)) xs) ≡ dedup same (map f xs)
map-dedup f same [] = refl
map-dedup f same (x ∷ xs) = map-dedup_from f same x xs
