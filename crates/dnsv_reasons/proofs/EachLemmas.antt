-- Lists each of whose elements has a number.
use Rattle.std.proofs.Common.{◌≡◌, ◌+◌, ℕ, zero, suc, List, [], ◌∷◌, ◌++◌, Some, ◌<◌, get_or, length, refl, ap, subst, arith}
use Rattle.std.specs.List.{slice_get}
use Rattle.dnsv_reasons.specs.SourceSearch.{EachFrom}

-- one more at the end
pub each_more : {X : Type 0} (P : ℕ → X → Type 0) (n : ℕ) (xs : List X) (x : X) → EachFrom P n xs → P (n + length xs) x
    → EachFrom P n (xs ++ x ∷ [])
each_more {X} P n [] x each more = let number : n + 0 ≡ n = omega arith in (subst (λ k. P k x) number more, tt)
each_more {X} P n (y ∷ xs) x each more =
    let number : n + suc (length xs) ≡ n + 1 + length xs = omega arith in
    (each.0, each_more P (n + 1) xs x each.1 (subst (λ k. P k x) number more))

-- the one at a place
pub each_placed : {X : Type 0} (P : ℕ → X → Type 0) (n : ℕ) (xs : List X) (i : ℕ) (x : X) → EachFrom P n xs → slice_get xs i ≡ Some x
    → P (n + i) x
each_placed {X} P n [] i x each at = cc
each_placed {X} P n (y ∷ xs) zero x each at =
    let is : y ≡ x = cc in let number : n ≡ n + 0 = omega arith in
    subst (λ k. P k x) number (subst (P n) is each.0)
each_placed {X} P n (y ∷ xs) (suc i) x each at =
    let number : n + 1 + i ≡ n + suc i = omega arith in
    subst (λ k. P k x) number (each_placed P (n + 1) xs i x each.1 at)

-- by its place, and by what is had there
pub at_place : {X : Type 0} (xs : List X) (x d : X) (k : ℕ) → k < length xs → get_or xs k d ≡ x → slice_get xs k ≡ Some x
at_place [] x d k within is = absurd (omega (arith, within))
at_place (y ∷ xs) x d zero within is = ap (λ z. Some z) is
at_place (y ∷ xs) x d (suc k) within is = at_place xs x d k (omega (arith, within)) is

pub longer : {X : Type 0} (xs : List X) (x : X) → length (xs ++ x ∷ []) ≡ length xs + 1
longer [] x = refl
longer (y ∷ xs) x = let rest = longer xs x in omega (arith, rest)
