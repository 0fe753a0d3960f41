-- Values and lists that their members determine.
use Rattle.std.proofs.Common.{◌≡◌, ◌∙◌, ◌⊎◌, inl, inr, ⊎_elim, ℕ, suc, Bool, true, false, List, [], ◌∷◌, Option, Some, IsTrue, length, map, arith, refl, sym, subst}
use Rattle.std.specs.Prelude.{◌↔◌, Contains, slice_get}
use Rattle.std.specs.List.{AllByRecursion, AllZip}
use Rattle.std.specs.List.Sorted.{IsStrictlyIncreasing}
use Rattle.dnsv_canonical.proofs.CanonicalLemmas.{IsMember, IsMember-from_contains}
use Rattle.dnsv_denial.proofs.lemmas.RisingLemmas.{one_rising}
use Rattle.dnsv_zone_keys.specs.Vouchers.{IsFirstOf}

-- ---- values

-- two tests of one thing
pub one_test : (P : Type 0) (a b : Bool) → (IsTrue a ↔ P) → (IsTrue b ↔ P) → a ≡ b
one_test P true true x y = refl
one_test P true false x y = sym (y.1 (x.0 refl))
one_test P false true x y = x.1 (y.0 refl)
one_test P false false x y = refl

-- the first that is such
pub one_first : {X : Type 0} (Such : X → Type 0) (xs : List X) (a b : Option X) → IsFirstOf Such xs a → IsFirstOf Such xs b → a ≡ b
one_first {X = X} Such [] a b x y = x ∙ sym y
one_first {X = X} Such (each ∷ xs) a b (inl x) (inl y) = x.1 ∙ sym y.1
one_first {X = X} Such (each ∷ xs) a b (inl x) (inr y) = absurd (y.0 x.0)
one_first {X = X} Such (each ∷ xs) a b (inr x) (inl y) = absurd (x.0 y.0)
one_first {X = X} Such (each ∷ xs) a b (inr x) (inr y) = one_first Such xs a b x.1 y.1

-- ---- rising lists

-- two rising lists of those numbers that are such
pub one_rising_of : (Such : ℕ → Type 0) (xs ys : List ℕ) → IsStrictlyIncreasing xs → IsStrictlyIncreasing ys
    → ((n : ℕ) → Contains xs n ↔ Such n) → ((n : ℕ) → Contains ys n ↔ Such n) → xs ≡ ys
one_rising_of Such xs ys first second these those =
    one_rising xs ys first second (λ n there. (those n).1 ((these n).0 there)) (λ n there. (these n).1 ((those n).0 there))

module _ {X : Type 0} (number : X → ℕ) (P : X → Type 0) where
  -- a number is that of one of them
  its : (xs : List X) (n : ℕ) → AllByRecursion P xs → IsMember n (map number xs) → (x : X) × P x × (number x ≡ n)
  its [] n each there = absurd there
  its (x ∷ xs) n each there =
      ⊎_elim (λ (same : n ≡ number x). (x, each.0, sym same)) (λ (later : IsMember n (map number xs)). its xs n each.1 later) there

  same_members : (xs ys : List X) → AllByRecursion P xs → AllByRecursion P ys → ((x y : X) → P x → P y → number x ≡ number y → x ≡ y)
      → map number xs ≡ map number ys → xs ≡ ys
  same_members [] [] first second one same = refl
  same_members [] (y ∷ ys) first second one same = absurd (cc same)
  same_members (x ∷ xs) [] first second one same = absurd (cc same)
  same_members (x ∷ xs) (y ∷ ys) first second one same =
      let number_is : number x ≡ number y = cc same in
      let rest : map number xs ≡ map number ys = cc same in
      let head : x ≡ y = one x y first.0 second.0 number_is in
      let tail : xs ≡ ys = same_members xs ys first.1 second.1 one rest in
      λ i. head i ∷ tail i

  all_in : (xs ys : List X) → AllByRecursion P xs → ((x : X) → P x → Contains (map number ys) (number x)) → (n : ℕ)
      → Contains (map number xs) n → Contains (map number ys) n
  all_in xs ys each every n there =
      let found = its xs n each (IsMember-from_contains (map number xs) n there) in
      subst (λ (m : ℕ). Contains (map number ys) m) found.2 (every found.0 found.1)

  -- two lists that rise by a number, which determines its member
  pub one_by_number : (xs ys : List X) → IsStrictlyIncreasing (map number xs) → IsStrictlyIncreasing (map number ys) → AllByRecursion P xs
      → AllByRecursion P ys → ((x : X) → P x → Contains (map number xs) (number x)) → ((x : X) → P x → Contains (map number ys) (number x))
      → ((x y : X) → P x → P y → number x ≡ number y → x ≡ y) → xs ≡ ys
  one_by_number xs ys rising also first second these those one =
      same_members xs ys first second one
      (one_rising (map number xs) (map number ys) rising also (all_in xs ys first those) (all_in ys xs second these))

-- ---- lists side by side

-- what a member determines
pub alike_zip : {A B : Type 0} (R : A → B → Type 0) (Alike : B → B → Type 0) → ((x : A) (a b : B) → R x a → R x b → Alike a b)
    → (xs : List A) (ys zs : List B) → AllZip R xs ys → AllZip R xs zs → AllZip Alike ys zs
alike_zip {A = A} {B = B} R Alike one [] [] [] p q = tt
alike_zip {A = A} {B = B} R Alike one [] [] (b ∷ zs) p q = absurd q
alike_zip {A = A} {B = B} R Alike one [] (a ∷ ys) zs p q = absurd p
alike_zip {A = A} {B = B} R Alike one (x ∷ xs) [] zs p q = absurd p
alike_zip {A = A} {B = B} R Alike one (x ∷ xs) (a ∷ ys) [] p q = absurd q
alike_zip {A = A} {B = B} R Alike one (x ∷ xs) (a ∷ ys) (b ∷ zs) p q =
    (one x a b p.0 q.0, alike_zip R Alike one xs ys zs p.1 q.1)

-- by their places
pub zip_by_place : {B : Type 0} (Alike : B → B → Type 0) (ys zs : List B) → length ys ≡ length zs
    → ((n : ℕ) (a b : B) → slice_get ys n ≡ Some a → slice_get zs n ≡ Some b → Alike a b) → AllZip Alike ys zs
zip_by_place {B = B} Alike [] [] long each = tt
zip_by_place {B = B} Alike [] (b ∷ zs) long each = absurd (omega (arith, long))
zip_by_place {B = B} Alike (a ∷ ys) [] long each = absurd (omega (arith, long))
zip_by_place {B = B} Alike (a ∷ ys) (b ∷ zs) long each =
    (each 0 a b refl refl, zip_by_place Alike ys zs (omega (arith, long)) (λ n x y p q. each (suc n) x y p q))
