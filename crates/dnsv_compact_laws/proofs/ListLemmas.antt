-- Members of a list.
use Rattle.std.proofs.Common.{◌≡◌, ◌⊎◌, ◌≤◌, inl, inr, ℕ, suc, Bool, true, false, List, [], ◌∷◌, ◌++◌, refl, sym, ap, subst, ◌∙◌, arith}
use Rattle.std.specs.List.{Contains, list_any}
use Rattle.std.proofs.lemmas.List.Elements.{Contains-append_cases, Contains-append_right}
use Rattle.dnsv_canonical.proofs.CanonicalLemmas.{IsMember, IsMember-from_contains}

pub contains_here : {X : Type 0} (x : X) (xs : List X) → Contains (x ∷ xs) x
contains_here x xs = (0, omega arith, refl)

pub contains_later : {X : Type 0} (x : X) (xs : List X) (y : X) → Contains xs y → Contains (x ∷ xs) y
contains_later x xs y there = Contains-append_right (x ∷ []) xs y there

only : {X : Type 0} (x y : X) → IsMember y (x ∷ []) → y ≡ x
only x y (inl same) = same
only x y (inr none) = absurd none

-- the member of a list of one
pub contains_only : {X : Type 0} (xs : List X) (x y : X) → xs ≡ x ∷ [] → Contains xs y → y ≡ x
contains_only {X} xs x y is there =
    only x y (IsMember-from_contains (x ∷ []) y (subst (λ (each : List X). Contains each y) is there))

pub contains_none : {X : Type 0} (xs : List X) (y : X) → xs ≡ [] → Contains xs y → ⊥
contains_none {X} xs y is there = IsMember-from_contains [] y (subst (λ (each : List X). Contains each y) is there)

member_passes : {X : Type 0} (test : X → Bool) (xs : List X) (x : X) → IsMember x xs → test x ≡ true → list_any test xs ≡ true
member_passes test [] x member passes = absurd member
member_passes test (y ∷ xs) x (inl same) passes = let here : test y ≡ true = sym (ap test same) ∙ passes in rw here refl
member_passes test (y ∷ xs) x (inr later) passes =
    elim (test y) as (λ b. test y ≡ b → list_any test (y ∷ xs) ≡ true) [
      | true ↦ λ here. rw here refl
      | false ↦ λ here. rw here (member_passes test xs x later passes)
    ] refl

-- a test that an element passes
pub any_true : {X : Type 0} (test : X → Bool) (xs : List X) (x : X) → Contains xs x → test x ≡ true → list_any test xs ≡ true
any_true test xs x there passes = member_passes test xs x (IsMember-from_contains xs x there) passes

-- ---- a list in two parts, whose members have numbers

-- those in front have this number, and those behind greater ones
pub number_from : {X : Type 0} (number : X → ℕ) (front rest : List X) (first : ℕ) (x : X) → (Contains front x → number x ≡ first)
    → (Contains rest x → suc first ≤ number x) → Contains front x ⊎ Contains rest x → first ≤ number x
number_from number front rest first x own after (inl here) = let is = own here in omega (arith, is)
number_from number front rest first x own after (inr later) = let is = after later in omega (arith, is)

-- so of one number there is one, where that is so of either part
pub one_of_number : {X : Type 0} (number : X → ℕ) (front rest : List X) (first : ℕ) (x y : X) → number x ≡ number y
    → ((z : X) → Contains front z → number z ≡ first) → ((z : X) → Contains rest z → suc first ≤ number z)
    → (Contains front x → Contains front y → x ≡ y) → (Contains rest x → Contains rest y → x ≡ y)
    → Contains front x ⊎ Contains rest x → Contains front y ⊎ Contains rest y → x ≡ y
one_of_number number front rest first x y same own after here later (inl front_x) (inl front_y) = here front_x front_y
one_of_number number front rest first x y same own after here later (inl front_x) (inr later_y) =
    let one = own x front_x in let other = after y later_y in absurd (omega (arith, one, other, same))
one_of_number number front rest first x y same own after here later (inr later_x) (inl front_y) =
    let one = own y front_y in let other = after x later_x in absurd (omega (arith, one, other, same))
one_of_number number front rest first x y same own after here later (inr later_x) (inr later_y) = later later_x later_y

-- a member of the whole
pub in_part : {X : Type 0} (xs front rest : List X) (x : X) → xs ≡ front ++ rest → Contains xs x → Contains front x ⊎ Contains rest x
in_part {X} xs front rest x is there = Contains-append_cases front rest x (subst (λ (each : List X). Contains each x) is there)
