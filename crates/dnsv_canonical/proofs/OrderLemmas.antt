-- Lists, and two of them side by side.
use Rattle.std.proofs.Common.{◌≡◌, ℕ, zero, suc, ◌+◌, ap, take, ◌++◌, ◌≤◌, length, List, [], ◌∷◌, refl, subst, inl, inr, arith}
use Rattle.std.specs.Prelude.{Contains, Some, slice_get}
use Rattle.std.specs.List.{AllByRecursion, AllZip}
use Rattle.dnsv_canonical.proofs.CanonicalLemmas.{IsMember-from_contains, Contains-from_member, member_passes}

pub each_member : {X : Type 0} (P : X → Type 0) (xs : List X) → ((x : X) → Contains xs x → P x) → AllByRecursion P xs
each_member P [] holds = tt
each_member P (x ∷ xs) holds = (
  holds x (Contains-from_member (x ∷ xs) x (inl refl)),
  each_member P xs (λ y there. holds y (Contains-from_member (x ∷ xs) y (inr (IsMember-from_contains xs y there)))),
)

pub each_of : {X : Type 0} (P : X → Type 0) (xs : List X) (x : X) → AllByRecursion P xs → Contains xs x → P x
each_of P xs x each there = member_passes P xs x each (IsMember-from_contains xs x there)

pub each_kept : {X : Type 0} (P Q : X → Type 0) (xs : List X) → ((x : X) → P x → Q x) → AllByRecursion P xs → AllByRecursion Q xs
each_kept P Q [] leads all = tt
each_kept P Q (x ∷ xs) leads all = (leads x all.0, each_kept P Q xs leads all.1)

-- ---- two lists side by side

pub zip_at : {A B : Type 0} (R : A → B → Type 0) (xs : List A) (ys : List B) (i : ℕ) (y : B)
    → AllZip R xs ys → slice_get ys i ≡ Some y → (x : A) × (slice_get xs i ≡ Some x) × R x y
zip_at R [] [] i y all there = cc
zip_at R [] (b ∷ ys) i y all there = absurd all
zip_at R (a ∷ xs) [] i y all there = absurd all
zip_at R (a ∷ xs) (b ∷ ys) zero y all there = let is : b ≡ y = cc in (a, refl, subst (R a) is all.0)
zip_at R (a ∷ xs) (b ∷ ys) (suc i) y all there = zip_at R xs ys i y all.1 there

pub zip_from : {A B : Type 0} (R : A → B → Type 0) (xs : List A) (ys : List B) (i : ℕ) (x : A)
    → AllZip R xs ys → slice_get xs i ≡ Some x → (y : B) × (slice_get ys i ≡ Some y) × R x y
zip_from R [] [] i x all there = cc
zip_from R [] (b ∷ ys) i x all there = absurd all
zip_from R (a ∷ xs) [] i x all there = absurd all
zip_from R (a ∷ xs) (b ∷ ys) zero x all there = let is : a ≡ x = cc in (b, refl, subst (λ z. R z b) is all.0)
zip_from R (a ∷ xs) (b ∷ ys) (suc i) x all there = zip_from R xs ys i x all.1 there

pub zip_length : {A B : Type 0} (R : A → B → Type 0) (xs : List A) (ys : List B) → AllZip R xs ys → length xs ≡ length ys
zip_length R [] [] all = refl
zip_length R [] (y ∷ ys) all = absurd all
zip_length R (x ∷ xs) [] all = absurd all
zip_length R (x ∷ xs) (y ∷ ys) all = ap suc (zip_length R xs ys all.1)

-- ---- lists that grow

pub take_next : {X : Type 0} (xs : List X) (i : ℕ) (x : X) → slice_get xs i ≡ Some x → take (i + 1) xs ≡ take i xs ++ x ∷ []
take_next [] i x at = cc
take_next (y ∷ ys) zero x at = let is : y ≡ x = cc in ap (λ z. z ∷ []) is
take_next (y ∷ ys) (suc i) x at =
    let same : suc (i + 1) ≡ suc i + 1 = omega arith in
    subst (λ n. take n (y ∷ ys) ≡ y ∷ (take i ys ++ x ∷ [])) same (ap (λ rest. y ∷ rest) (take_next ys i x at))

pub whole_by_count : {X : Type 0} (xs : List X) (i : ℕ) → length xs ≤ i → take i xs ≡ xs
whole_by_count [] zero within = refl
whole_by_count [] (suc i) within = refl
whole_by_count (x ∷ xs) zero within = absurd (omega (arith, within))
whole_by_count (x ∷ xs) (suc i) within = ap (λ rest. x ∷ rest) (whole_by_count xs i (omega (arith, within)))
