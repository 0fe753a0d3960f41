-- Lists that are one: those in an order that have the same members, and those that say what is so of the same.
use Rattle.std.proofs.Common.{◌≡◌, ◌↔◌, ◌⊎◌, ◌<◌, inl, inr, ⊎_elim, ℕ, suc, List, [], ◌∷◌, map, refl, sym, ap, ◌∙◌, subst, arith}
use Rattle.std.proofs.lemmas.Cmp.{nat_cmp_total}
use Rattle.std.specs.Cmp.{IsTotalOrder}
use Rattle.std.specs.List.{AllByRecursion, AllZip}
use Rattle.std.specs.List.Sorted.{IsStrictlySortedBy}
use Rattle.std.specs.Ordering.{nat_cmp, ordering_reverse}
use Rattle.std.specs.Prelude.{⊤, Contains, Some, slice_get}
use Rattle.std.specs.declared.cmp.Ordering.{Ordering}
use Rattle.std.specs.declared.cmp.Ordering.TheVariants.{Less, Greater}
use Rattle.dnsv_canonical.proofs.CanonicalLemmas.{IsMember, IsMember-from_contains, Contains-from_member, member_passes}
use Rattle.dnsv_gaps.specs.questions.Listing.{AreOfNumbers}

-- ---- values

-- neither is less
pub level : (m n : ℕ) → ¬ (m < n) → ¬ (n < m) → m ≡ n
level m n up down = omega (arith, up, down)

-- ---- lists in an order

module _ {X : Type 0} (Before : X → X → Type 0) where
  -- each goes before all behind it
  abbrev pub AreInOrder : List X → Type 0
  AreInOrder [] = ⊤
  AreInOrder (x ∷ xs) = AllByRecursion (Before x) xs × AreInOrder xs

  each_placed : (P : X → Type 0) (xs : List X) → ((i : ℕ) (x : X) → slice_get xs i ≡ Some x → P x) → AllByRecursion P xs
  each_placed P [] placed = tt
  each_placed P (x ∷ xs) placed = (placed 0 x refl, each_placed P xs (λ i y there. placed (suc i) y there))

  pub in_order_by_places : (xs : List X) → ((i j : ℕ) (x y : X) → slice_get xs i ≡ Some x → slice_get xs j ≡ Some y → i < j → Before x y)
      → AreInOrder xs
  in_order_by_places [] placed = tt
  in_order_by_places (x ∷ xs) placed = (
    each_placed (Before x) xs (λ j y there. placed 0 (suc j) x y refl there (omega arith)),
    in_order_by_places xs (λ i j y z first second less. placed (suc i) (suc j) y z first second (omega (arith, less))),
  )

  module _ (never : (x y : X) → Before x y → Before y x → ⊥) where
    -- the members behind equal heads
    rest_of : (head other : X) (xs ys : List X) → AllByRecursion (Before head) xs → head ≡ other
        → ((x : X) → IsMember x (head ∷ xs) → IsMember x (other ∷ ys)) → (x : X) → IsMember x xs → IsMember x ys
    rest_of head other xs ys above same to x member =
        let after : Before head x = member_passes (Before head) xs x above member in
        ⊎_elim (λ (is : x ≡ other).
        let itself : Before head head = subst (Before head) (is ∙ sym same) after in absurd (never head head itself itself))
        (λ (later : IsMember x ys). later) (to x (inr member))

    one_by_members : (xs ys : List X) → AreInOrder xs → AreInOrder ys → ((x : X) → IsMember x xs → IsMember x ys)
        → ((x : X) → IsMember x ys → IsMember x xs) → xs ≡ ys
    one_by_members [] [] p q to from = refl
    one_by_members [] (y ∷ ys) p q to from = absurd (from y (inl refl))
    one_by_members (x ∷ xs) [] p q to from = absurd (to x (inl refl))
    one_by_members (x ∷ xs) (y ∷ ys) p q to from =
        let heads : x ≡ y =
        ⊎_elim (λ (same : x ≡ y). same)
        (λ (later : IsMember x ys).
        ⊎_elim (λ (same : y ≡ x). sym same)
        (λ (behind : IsMember y xs).
        absurd (never x y (member_passes (Before x) xs y p.0 behind) (member_passes (Before y) ys x q.0 later)))
        (from y (inl refl)))
        (to x (inl refl)) in
        let tails : xs ≡ ys = one_by_members xs ys p.1 q.1 (rest_of x y xs ys p.0 heads to) (rest_of y x ys xs q.0 (sym heads) from) in
        λ i. heads i ∷ tails i

    pub one_in_order : (Such : X → Type 0) (xs ys : List X) → AreInOrder xs → AreInOrder ys → ((x : X) → Contains xs x ↔ Such x)
        → ((x : X) → Contains ys x ↔ Such x) → xs ≡ ys
    one_in_order Such xs ys p q first second =
        one_by_members xs ys p q
        (λ x m. IsMember-from_contains ys x ((second x).1 ((first x).0 (Contains-from_member xs x m))))
        (λ x m. IsMember-from_contains xs x ((first x).1 ((second x).0 (Contains-from_member ys x m))))

-- ---- rising lists

rising_in_order : {K : Type 0} (cmp : K → K → Ordering) (xs : List K) → IsStrictlySortedBy cmp xs → AreInOrder (λ x y. cmp x y ≡ Less) xs
unfolding IsStrictlySortedBy
rising_in_order cmp [] rising = tt
rising_in_order cmp (x ∷ xs) rising = (rising.0, rising_in_order cmp xs rising.1)

each_first : {X K : Type 0} (cmp : K → K → Ordering) (f : X → K) (x : X) (xs : List X) → AllByRecursion (λ k. cmp (f x) k ≡ Less) (map f xs)
    → AllByRecursion (λ y. cmp (f x) (f y) ≡ Less) xs
each_first cmp f x [] each = tt
each_first cmp f x (y ∷ xs) each = (each.0, each_first cmp f x xs each.1)

keys_in_order : {X K : Type 0} (cmp : K → K → Ordering) (f : X → K) (xs : List X) → IsStrictlySortedBy cmp (map f xs)
    → AreInOrder (λ x y. cmp (f x) (f y) ≡ Less) xs
unfolding IsStrictlySortedBy
keys_in_order cmp f [] rising = tt
keys_in_order cmp f (x ∷ xs) rising = (each_first cmp f x xs rising.0, keys_in_order cmp f xs rising.1)

module _ {K : Type 0} (cmp : K → K → Ordering) (total : IsTotalOrder cmp) where
  never_both : (x y : K) → cmp x y ≡ Less → cmp y x ≡ Less → ⊥
  never_both x y less more = let turned : Less ≡ Greater = sym less ∙ total.antisymm x y ∙ ap ordering_reverse more in cc

  pub one_rising : (Such : K → Type 0) (xs ys : List K) → IsStrictlySortedBy cmp xs → IsStrictlySortedBy cmp ys
      → ((x : K) → Contains xs x ↔ Such x) → ((x : K) → Contains ys x ↔ Such x) → xs ≡ ys
  one_rising Such xs ys p q first second =
      one_in_order (λ x y. cmp x y ≡ Less) never_both Such xs ys (rising_in_order cmp xs p) (rising_in_order cmp ys q) first second

  -- by keys that rise
  pub one_by_keys : {X : Type 0} (f : X → K) (Such : X → Type 0) (xs ys : List X) → IsStrictlySortedBy cmp (map f xs)
      → IsStrictlySortedBy cmp (map f ys) → ((x : X) → Contains xs x ↔ Such x) → ((x : X) → Contains ys x ↔ Such x) → xs ≡ ys
  one_by_keys f Such xs ys p q first second =
      one_in_order (λ x y. cmp (f x) (f y) ≡ Less) (λ x y. never_both (f x) (f y)) Such xs ys (keys_in_order cmp f xs p)
      (keys_in_order cmp f ys q) first second

  -- falling ones
  pub one_falling : (Such : K → Type 0) (xs ys : List K) → IsStrictlySortedBy (λ x y. cmp y x) xs → IsStrictlySortedBy (λ x y. cmp y x) ys
      → ((x : K) → Contains xs x ↔ Such x) → ((x : K) → Contains ys x ↔ Such x) → xs ≡ ys
  one_falling Such xs ys p q first second =
      one_in_order (λ x y. cmp y x ≡ Less) (λ x y less more. never_both x y more less) Such xs ys (rising_in_order (λ x y. cmp y x) xs p)
      (rising_in_order (λ x y. cmp y x) ys q) first second

-- ---- what is so of the same

pub zip_same : {A B : Type 0} (R : A → B → Type 0) → ((x : A) (y z : B) → R x y → R x z → y ≡ z) → (xs : List A) (ys zs : List B)
    → AllZip R xs ys → AllZip R xs zs → ys ≡ zs
zip_same R one [] [] [] p q = refl
zip_same R one [] [] (z ∷ zs) p q = absurd q
zip_same R one [] (y ∷ ys) zs p q = absurd p
zip_same R one (x ∷ xs) [] zs p q = absurd p
zip_same R one (x ∷ xs) (y ∷ ys) [] p q = absurd q
zip_same R one (x ∷ xs) (y ∷ ys) (z ∷ zs) p q =
    let head : y ≡ z = one x y z p.0 q.0 in
    let tail : ys ≡ zs = zip_same R one xs ys zs p.1 q.1 in
    λ i. head i ∷ tail i

-- elements with the same keys
pub zip_keyed : {X K : Type 0} (f : X → K) (Is : X → Type 0) (S : X → X → Type 0) → ((x y : X) → f x ≡ f y → Is x → Is y → S x y)
    → (xs ys : List X) → map f xs ≡ map f ys → AllByRecursion Is xs → AllByRecursion Is ys → AllZip S xs ys
zip_keyed f Is S one [] [] same p q = tt
zip_keyed f Is S one [] (y ∷ ys) same p q = let never : ⊥ = cc in absurd never
zip_keyed f Is S one (x ∷ xs) [] same p q = let never : ⊥ = cc in absurd never
zip_keyed f Is S one (x ∷ xs) (y ∷ ys) same p q =
    let head : f x ≡ f y = cc in
    let tail : map f xs ≡ map f ys = cc in
    (one x y head p.0 q.0, zip_keyed f Is S one xs ys tail p.1 q.1)

-- one for each number that is such
pub one_of_numbers : {X : Type 0} (number : X → ℕ) (Such : ℕ → Type 0) (Is : X → Type 0) (S : X → X → Type 0)
    → ((x y : X) → number x ≡ number y → Is x → Is y → S x y) → (xs ys : List X) → AreOfNumbers number Such Is xs
    → AreOfNumbers number Such Is ys → AllZip S xs ys
one_of_numbers number Such Is S one xs ys p q =
    zip_keyed number Is S one xs ys
    (one_rising nat_cmp nat_cmp_total Such (map number xs) (map number ys) p.rising q.rising p.members q.members) p.each q.each
