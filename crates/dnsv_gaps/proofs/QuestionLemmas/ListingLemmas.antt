-- Lists that grow by what is such, number by number.
use Rattle.std.proofs.Common.{◌≡◌, ◌⊎◌, ◌+◌, ◌<◌, ◌≤◌, ℕ, zero, suc, Less, inl, inr, ⊎_elim, List, [], ◌∷◌, ◌++◌, map, refl, sym, ◌∙◌, subst, arith}
use Rattle.std.proofs.lemmas.Bool.{cases_lt}
use Rattle.std.proofs.lemmas.List.{map-append}
use Rattle.std.proofs.lemmas.List.Elements.{Contains-append_cases, Contains-append_left, Contains-append_right}
use Rattle.std.specs.Cmp.{nat_cmp_is}
use Rattle.std.specs.List.{AllByRecursion, Contains}
use Rattle.std.specs.List.Sorted.{IsStrictlySortedBy}
use Rattle.std.specs.Ordering.{nat_cmp}
use Rattle.dnsv_gaps.specs.questions.Listing.{AddsWhere, AreOfNumbers}

nothing_in : {X : Type 0} (x : X) → ¬ Contains [] x
nothing_in x there = let within = there.1 in absurd (omega (arith, within))

only_in : {X : Type 0} (x y : X) → Contains (y ∷ []) x → x ≡ y
only_in x y (zero, within, is) = sym is
only_in x y (suc k, within, is) = absurd (omega (arith, within))

pub each_more : {X : Type 0} (P : X → Type 0) (xs : List X) (x : X) → AllByRecursion P xs → P x → AllByRecursion P (xs ++ x ∷ [])
each_more P [] x each last = (last, tt)
each_more P (y ∷ xs) x each last = (each.0, each_more P xs x each.1 last)

is_less : (m n : ℕ) → m < n → nat_cmp m n ≡ Less
is_less m n less = sym (nat_cmp_is m n Less less)

-- a greater number behind rising ones
rising_more : (ns : List ℕ) (n : ℕ) → IsStrictlySortedBy nat_cmp ns → ((m : ℕ) → Contains ns m → m < n) → IsStrictlySortedBy nat_cmp (ns ++ n ∷ [])
unfolding IsStrictlySortedBy
rising_more [] n rising less = (tt, tt)
rising_more (m ∷ ns) n rising less = (
  each_more (λ y. nat_cmp m y ≡ Less) ns n rising.0 (is_less m n (less m (0, omega arith, refl))),
  rising_more ns n rising.1 (λ k there. less k (Contains-append_right (m ∷ []) ns k there)),
)

module _ {X : Type 0} (number : X → ℕ) (Such : ℕ → Type 0) (Is : X → Type 0) where
  -- those with numbers below this one
  abbrev pub AreTo : ℕ → List X → Type 0
  AreTo count = AreOfNumbers number (λ n. (n < count) × Such n) Is

  pub none_yet : AreTo 0 []
  unfolding IsStrictlySortedBy
  none_yet = record {
    rising = tt;
    each = tt;
    members = λ n. (λ there. absurd (nothing_in n there), λ is. let less = is.0 in absurd (omega (arith, less)));
  }

  one_added : (count : ℕ) (old : List X) (x : X) → AreTo count old → Such count → Is x → number x ≡ count → AreTo (count + 1) (old ++ x ∷ [])
  one_added count old x so_far such is at =
      let numbers : map number (old ++ x ∷ []) ≡ map number old ++ count ∷ [] = map-append number old (x ∷ []) ∙ (λ i. map number old ++ at i ∷ []) in
      record {
        rising = subst (IsStrictlySortedBy nat_cmp) (sym numbers)
            (rising_more (map number old) count so_far.rising (λ m there. ((so_far.members m).0 there).0));
        each = each_more Is old x so_far.each is;
        members = λ n. (
          λ there. ⊎_elim
              (λ (before : Contains (map number old) n). let was = (so_far.members n).0 before in let less = was.0 in (omega (arith, less), was.1))
              (λ (last : Contains (count ∷ []) n). let same = only_in n count last in (omega (arith, same), subst Such (sym same) such))
              (Contains-append_cases (map number old) (count ∷ []) n (subst (λ ns. Contains ns n) numbers there)),
          λ wanted. subst (λ ns. Contains ns n) (sym numbers) (⊎_elim
              (λ (before : n < count). Contains-append_left (map number old) (count ∷ []) n ((so_far.members n).1 (before, wanted.1)))
              (λ (last : count ≤ n). let less = wanted.0 in let same : n ≡ count = omega (arith, less, last) in
              Contains-append_right (map number old) (count ∷ []) n (0, omega arith, sym same))
              (cases_lt n count)),
        );
      }

  pub none_added : (count : ℕ) (old : List X) → AreTo count old → ¬ Such count → AreTo (count + 1) old
  none_added count old so_far not = record {
    rising = so_far.rising;
    each = so_far.each;
    members = λ n. (
      λ there. let was = (so_far.members n).0 there in let less = was.0 in (omega (arith, less), was.1),
      λ wanted. ⊎_elim
          (λ (before : n < count). (so_far.members n).1 (before, wanted.1))
          (λ (last : count ≤ n). let less = wanted.0 in let same : n ≡ count = omega (arith, less, last) in absurd (not (subst Such same wanted.1)))
          (cases_lt n count),
    );
  }

  pub one_more : (count : ℕ) (old new : List X) → AreTo count old → AddsWhere (Such count) (λ x. Is x × (number x ≡ count)) old new → AreTo (count + 1) new
  one_more count old new so_far (inl added) =
      subst (AreTo (count + 1)) (sym added.1.2) (one_added count old added.1.0 so_far added.0 added.1.1.0 added.1.1.1)
  one_more count old new so_far (inr none) = subst (AreTo (count + 1)) (sym none.1) (none_added count old so_far none.0)

  pub all_there : (count : ℕ) (xs : List X) → ((n : ℕ) → Such n → n < count) → AreTo count xs → AreOfNumbers number Such Is xs
  all_there count xs below so_far = record {
    rising = so_far.rising;
    each = so_far.each;
    members = λ n. (λ there. ((so_far.members n).0 there).1, λ such. (so_far.members n).1 (below n such, such));
  }
