-- Keys in the order of their tags, and those with one tag.
use Rattle.std.proofs.Common.{◌≡◌, ℕ, ◌+◌, ◌-◌, ◌<◌, ◌≤◌, true, false, ⊎_elim, List, length, get_or, take, drop, sym, ap, ◌∙◌, subst, arith}
use Rattle.std.proofs.lemmas.Bool.{cases_lt}
use Rattle.std.proofs.lemmas.Bool.Decides.{nat_tests}
use Rattle.std.proofs.lemmas.List.{get_or-drop, get_or-take, length-drop, length-take}
use Rattle.std.proofs.lemmas.List.Sorted.{IsNonDecreasingBy-drop, IsNonDecreasingBy-from_sort}
use Rattle.std.specs.Prelude.{nat_le, nat_lt}
use Rattle.std.specs.List.{Contains}
use Rattle.std.specs.List.Sorted.{IsNonDecreasingBy, IsPartitionedBy, IsPartitionPoint, IsSortedByKey}
use Rattle.std.specs.Ordering.{nat_cmp}

module _ {X : Type 0} (f : X → ℕ) (xs : List X) (sorted : IsSortedByKey f nat_cmp xs) (tag : ℕ) where
  rises : IsNonDecreasingBy f xs
  rises = IsNonDecreasingBy-from_sort f xs sorted

  pub lt_parts : IsPartitionedBy (λ x. nat_lt (f x) tag) xs
  lt_parts i j d before within lt = let up = rises i j d before within in grind (arith, nat_tests, up, lt)

  pub le_parts : (start : ℕ) → IsPartitionedBy (λ x. nat_le (f x) tag) (drop start xs)
  le_parts start i j d before within le = let up = IsNonDecreasingBy-drop f start xs rises i j d before within in grind (arith, nat_tests, up, le)

module _ {X : Type 0} (f : X → ℕ) (xs : List X) (tag start count : ℕ)
    (from : IsPartitionPoint (λ x. nat_lt (f x) tag ≡ true) (λ x. nat_lt (f x) tag ≡ false) xs start)
    (to : IsPartitionPoint (λ x. nat_le (f x) tag ≡ true) (λ x. nat_le (f x) tag ≡ false) (drop start xs) count) where
  not_before : (k : ℕ) (x : X) → get_or xs k x ≡ x → f x ≡ tag → k < start → ⊥
  not_before k x at is before =
      let lt : nat_lt (f x) tag ≡ true = subst (λ (other : X). nat_lt (f other) tag ≡ true) at (from.0 k x (omega arith) before) in
      grind (arith, nat_tests, lt, is)

  not_behind : (j : ℕ) (x : X) → j < length (drop start xs) → get_or (drop start xs) j x ≡ x → f x ≡ tag → count ≤ j → ⊥
  not_behind j x within at is behind =
      let not_le : nat_le (f x) tag ≡ false = subst (λ (other : X). nat_le (f other) tag ≡ false) at (to.1 j x behind within) in
      grind (arith, nat_tests, not_le, is)

  here : (x : X) (k : ℕ) → k < length xs → get_or xs k x ≡ x → f x ≡ tag → start ≤ k → Contains (take count (drop start xs)) x
  here x k within at is behind =
      let place : start + (k - start) ≡ k = omega arith in
      let at_rest : get_or (drop start xs) (k - start) x ≡ x = get_or-drop start xs (k - start) x ∙ ap (λ (n : ℕ). get_or xs n x) place ∙ at in
      let inside : k - start < length (drop start xs) = omega (arith, length-drop start xs) in
      ⊎_elim
      (λ before. (k - start, omega (arith, before, inside, length-take count (drop start xs)), get_or-take count (drop start xs) (k - start) x before ∙ at_rest))
      (λ past. absurd (not_behind (k - start) x inside at_rest is past))
      (cases_lt (k - start) count)

  pub tagged_all : (x : X) → Contains xs x → f x ≡ tag → Contains (take count (drop start xs)) x
  tagged_all x (k, within, at) is =
      ⊎_elim (λ before. absurd (not_before k x at is before)) (λ behind. here x k within at is behind) (cases_lt k start)

  -- those found have the tag
  pub tagged_its : (x : X) → Contains (take count (drop start xs)) x → f x ≡ tag
  tagged_its x (j, within, at) =
      let size = length-take count (drop start xs) in
      let rest = length-drop start xs in
      let before : j < count = omega (arith, within, size) in
      let inside : j < length (drop start xs) = omega (arith, within, size) in
      let at_rest : get_or (drop start xs) j x ≡ x = sym (get_or-take count (drop start xs) j x before) ∙ at in
      let at_all : get_or xs (start + j) x ≡ x = sym (get_or-drop start xs j x) ∙ at_rest in
      let le : nat_le (f x) tag ≡ true = subst (λ (other : X). nat_le (f other) tag ≡ true) at_rest (to.0 j x (omega arith) before) in
      let not_lt : nat_lt (f x) tag ≡ false = subst (λ (other : X). nat_lt (f other) tag ≡ false) at_all (from.1 (start + j) x (omega arith) (omega (arith, inside, rest))) in
      grind (arith, nat_tests, le, not_lt)

  -- and are of the whole
  pub tagged_among : (x : X) → Contains (take count (drop start xs)) x → Contains xs x
  tagged_among x (j, within, at) =
      let size = length-take count (drop start xs) in
      let rest = length-drop start xs in
      let before : j < count = omega (arith, within, size) in
      let at_all : get_or xs (start + j) x ≡ x = sym (get_or-drop start xs j x) ∙ sym (get_or-take count (drop start xs) j x before) ∙ at in
      (start + j, omega (arith, within, size, rest), at_all)
