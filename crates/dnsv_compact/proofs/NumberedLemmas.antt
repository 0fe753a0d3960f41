-- Lists whose elements have numbers, and what is gathered from them.
use Rattle.std.proofs.Common.{◌≡◌, ◌⊎◌, ◌<◌, ◌≤◌, ◌+◌, ◌-◌, ℕ, zero, suc, List, [], ◌∷◌, Some, length, get_or, slice_get, refl, sym, ap, subst, arith, inl, inr, ⊎_elim}
use Rattle.std.proofs.lemmas.Bool.{cases_lt}
use Rattle.std.specs.List.{Contains}
use Rattle.dnsv_canonical.specs.Rrsets.{IsNumbered}
use Rattle.dnsv_verifier.specs.Asking.{AddsJust}
use Rattle.dnsv_verifier.proofs.AskLemmas.{adds_more, adds_nothing}
use Rattle.dnsv_compact.specs.Signed.{ComesOfFirst}

pub slice_get_at : {X : Type 0} (xs : List X) (i : ℕ) (x : X) → i < length xs → x ≡ get_or xs i x → slice_get xs i ≡ Some x
slice_get_at [] i x within is = absurd (omega (arith, within))
slice_get_at (y ∷ xs) zero x within is = ap (λ z. Some z) (sym is)
slice_get_at (y ∷ xs) (suc i) x within is = slice_get_at xs i x (omega (arith, within)) is

pub within_at : {X : Type 0} (xs : List X) (i : ℕ) (x : X) → slice_get xs i ≡ Some x → i < length xs
within_at [] i x is = absurd (cc)
within_at (y ∷ xs) zero x is = omega arith
within_at (y ∷ xs) (suc i) x is = omega (arith, within_at xs i x is)

pub read_at : {X : Type 0} (xs : List X) (i : ℕ) (x : X) → slice_get xs i ≡ Some x → get_or xs i x ≡ x
read_at [] i x is = absurd (cc)
read_at (y ∷ xs) zero x is = cc
read_at (y ∷ xs) (suc i) x is = read_at xs i x is

-- numbers are places from 1 on
pub numbered_at : {X : Type 0} (xs : List X) (i : ℕ) (x : X) → slice_get xs i ≡ Some x → IsNumbered xs (i + 1) x
numbered_at xs i x is = (omega arith, subst (λ (j : ℕ). slice_get xs j ≡ Some x) (omega arith) is)

-- a member has a number
pub numbered_from_contains : {X : Type 0} (xs : List X) (x : X) → Contains xs x → (number : ℕ) × IsNumbered xs number x
numbered_from_contains xs x (i, within, is) = (i + 1, numbered_at xs i x (slice_get_at xs i x within (sym is)))

-- ---- a loop that adds what comes of each element by its number

module _ {Y X : Type 0} (P : ℕ → Y → X → Type 0) (ys : List Y) where
  pub first_none : (a : List X) → AddsJust (ComesOfFirst P ys 0) a a
  first_none a = adds_nothing (ComesOfFirst P ys 0) a (λ x of. omega (arith, of.before))

  one_more : (n : ℕ) (y : Y) (x : X) → slice_get ys n ≡ Some y → ComesOfFirst P ys (n + 1) x → ComesOfFirst P ys n x ⊎ P (n + 1) y x
  one_more n y x at of =
      ⊎_elim
      (λ (earlier : of.place < n). inl (record { place = of.place; source = of.source; before = earlier; at = of.at; is = of.is }))
      (λ (last : n ≤ of.place).
      let here : of.place ≡ n = omega (arith, last, of.before) in
      let also : slice_get ys n ≡ Some of.source = subst (λ (i : ℕ). slice_get ys i ≡ Some of.source) here of.at in
      let same : of.source ≡ y = cc in
      inr (subst (λ (z : Y). P (n + 1) z x) same (subst (λ (i : ℕ). P (i + 1) of.source x) here of.is)))
      (cases_lt of.place n)

  pub first_more : (n : ℕ) (y : Y) (a b c : List X) → slice_get ys n ≡ Some y → AddsJust (ComesOfFirst P ys n) a b → AddsJust (P (n + 1) y) b c
      → AddsJust (ComesOfFirst P ys (n + 1)) a c
  first_more n y a b c at so_far adds =
      adds_more (ComesOfFirst P ys n) (P (n + 1) y) (ComesOfFirst P ys (n + 1)) a b c so_far adds
      (λ x of. record { place = of.place; source = of.source; before = omega (arith, of.before); at = of.at; is = of.is })
      (λ x p. record { place = n; source = y; before = omega arith; at = at; is = p })
      (λ x of. one_more n y x at of)

  -- it comes of an element with its number
  pub first_numbered : (n number : ℕ) (y : Y) (x : X) → length ys ≤ n → IsNumbered ys number y → P number y x → ComesOfFirst P ys n x
  first_numbered n number y x past is p =
      let within = within_at ys (number - 1) y is.1 in
      let same : number ≡ (number - 1) + 1 = omega (arith, is.0) in
      record { place = number - 1; source = y; before = omega (arith, past, within); at = is.1; is = subst (λ (k : ℕ). P k y x) same p }

-- within a list the default doesn't matter
pub get_or_same : {X : Type 0} (xs : List X) (i : ℕ) (a b : X) → i < length xs → get_or xs i a ≡ get_or xs i b
get_or_same [] i a b within = absurd (omega (arith, within))
get_or_same (x ∷ xs) zero a b within = refl
get_or_same (x ∷ xs) (suc i) a b within = get_or_same xs i a b (omega (arith, within))
