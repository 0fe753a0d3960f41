-- Lists in which nothing stands twice.
use Rattle.std.proofs.Common.{◌≡◌, ◌<◌, ◌≤◌, ◌+◌, ◌++◌, ℕ, suc, List, [], ◌∷◌, map, get_or, refl, sym, subst, ⊎_elim, arith}
use Rattle.std.proofs.lemmas.List.Elements.{Contains-append_cases, Contains-append_right}
use Rattle.std.proofs.lemmas.List.Kept.{AllPairs-from_increasing}
use Rattle.std.specs.List.{AllPairs, Contains}
use Rattle.std.specs.List.Sorted.{IsStrictlyIncreasing}
use Rattle.dnsv_verifier.proofs.NumberLemmas.{contains_from_map, contains_map}
use Rattle.dnsv_reasons.specs.laws.Once.{AreOnce}
use Rattle.dnsv_derivations.specs.Listing.{AreOfNumbered}
use Rattle.dnsv_explain_laws.proofs.holding.MemberLemmas.{none_in}

-- ---- two lists

pub once_append : {X : Type 0} (xs ys : List X) → AreOnce xs → AreOnce ys → ((x : X) → Contains xs x → ¬ Contains ys x) → AreOnce (xs ++ ys)
once_append [] ys one two apart = two
once_append {X = X} (x ∷ xs) ys one two apart =
    let never : ¬ Contains (xs ++ ys) x = λ there. ⊎_elim
    (λ (left : Contains xs x). one.0 left)
    (λ (right : Contains ys x). apart x (0, omega arith, refl) right)
    (Contains-append_cases xs ys x there) in
    (never, once_append xs ys one.1 two (λ y there. apart y (Contains-append_right (x ∷ []) xs y there)))

pub once_one : {X : Type 0} (x : X) → AreOnce (x ∷ [])
once_one x = (none_in [] x refl, tt)

-- ---- numbers

-- by numbers that rise
pub once_rising : {X Y : Type 0} (number : X → ℕ) (told : X → Y) → ((a b : X) → told a ≡ told b → number a ≡ number b) → (xs : List X)
    → AllPairs (λ a b. a < b) (map number xs) → AreOnce (map told xs)
once_rising number told only [] pairs = tt
once_rising {X = X} {Y = Y} number told only (x ∷ xs) pairs =
    let never : ¬ Contains (map told xs) (told x) = λ there.
    let from = contains_from_map told xs (told x) there in
    let at = contains_map number xs from.0 from.1 in
    let place = at.1 in
    let above : number x < get_or (map number xs) at.0 (number from.0) =
    pairs 0 (suc at.0) (number from.0) (omega arith) (omega (arith, place)) in
    let is : get_or (map number xs) at.0 (number from.0) ≡ number from.0 = at.2 in
    let same : number from.0 ≡ number x = only from.0 x from.2 in
    omega (arith, above, is, same) in
    (never, once_rising number told only xs (λ i j d before within. pairs (suc i) (suc j) d (omega (arith, before)) (omega (arith, within))))

pub once_increasing : {X Y : Type 0} (number : X → ℕ) (told : X → Y) → ((a b : X) → told a ≡ told b → number a ≡ number b) → (xs : List X)
    → IsStrictlyIncreasing (map number xs) → AreOnce (map told xs)
once_increasing number told only xs rising = once_rising number told only xs (AllPairs-from_increasing (map number xs) rising)

-- lists for each of others, whose members have its number
module _ {X Y : Type 0} (Are : ℕ → X → List Y → Type 0) (number : Y → ℕ)
    (once : (k : ℕ) (x : X) (ys : List Y) → Are k x ys → AreOnce ys)
    (its : (k : ℕ) (x : X) (ys : List Y) → Are k x ys → (y : Y) → Contains ys y → number y ≡ k) where
  numbers_from : (k : ℕ) (xs : List X) (ys : List Y) → AreOfNumbered Are k xs ys → (y : Y) → Contains ys y → k ≤ number y
  numbers_from k [] ys none y there = absurd (none_in ys y none there)
  numbers_from k (x ∷ xs) ys each y there =
      let In : List Y → Type 0 = λ all. Contains all y in
      ⊎_elim
      (λ (left : Contains each.first y). let is = its k x each.first each.is_first y left in let at : k ≤ number y = omega (arith, is) in at)
      (λ (right : Contains each.second y).
      let later = numbers_from (k + 1) xs each.second each.is_second y right in let at : k ≤ number y = omega (arith, later) in at)
      (Contains-append_cases each.first each.second y (subst In each.parts there))

  pub once_numbered : (k : ℕ) (xs : List X) (ys : List Y) → AreOfNumbered Are k xs ys → AreOnce ys
  once_numbered k [] ys none = let Once : List Y → Type 0 = λ all. AreOnce all in subst Once (sym none) tt
  once_numbered k (x ∷ xs) ys each =
      let Once : List Y → Type 0 = λ all. AreOnce all in
      subst Once (sym each.parts)
      (once_append each.first each.second (once k x each.first each.is_first) (once_numbered (k + 1) xs each.second each.is_second)
      (λ y left right.
      let is = its k x each.first each.is_first y left in
      let later = numbers_from (k + 1) xs each.second each.is_second y right in
      omega (arith, is, later)))
