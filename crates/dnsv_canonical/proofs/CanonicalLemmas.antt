-- Lists that rise strictly: two with the same members are one, and sorting and dropping repeats makes one.
use Rattle.std.proofs.Common.{◌≡◌, ℕ, zero, suc, ◌<◌, ◌⊎◌, inl, inr, ⊎_elim, List, [], ◌∷◌, length, get_or, map, refl, sym, ap, ◌∙◌, subst, arith}
use Rattle.std.specs.Prelude.{Contains, IsPermutation, nat_eq}
use Rattle.std.specs.declared.cmp.Ordering.{Ordering}
use Rattle.std.specs.declared.cmp.Ordering.TheVariants.{Less, Equal, Greater}
use Rattle.std.specs.Ordering.{match_ordering, ordering_reverse}
use Rattle.std.specs.Cmp.{IsTotalOrder}
use Rattle.std.specs.Cmp.Lexicographic.{pointwise, on_texts, texts_ties, lists_equiv}
use Rattle.std.specs.List.{AllByRecursion, dedup}
use Rattle.std.specs.List.Sorted.{IsStrictlySortedBy, IsSorted}
use Rattle.std.specs.BTreeSet.{insert_key}
use Rattle.std.proofs.lemmas.Cmp.{nat_list_cmp_total, nat_eq_equiv}
use Rattle.std.proofs.lemmas.Map.Lookups.{exact_bytes}
use Rattle.std.proofs.lemmas.List.Sorted.{IsPermutation-map, IsPermutation-sym, Contains-permutation}
use Rattle.std.proofs.lemmas.List.Kept.{IsStrictlySortedBy-dedup, Contains-dedup, Contains-from_dedup}
use Rattle.std.proofs.lemmas.Slice.Eq.{bytes_eq-Decides}
use Rattle.dnsv_names.specs.RisingLaws.{map-dedup}
use Rattle.dnsv_canonical.specs.Canonical.{rdata_cmp, IsCanonical}

-- membership by cases
abbrev pub IsMember : {K : Type 0} → K → List K → Type 0
IsMember x [] = ⊥
IsMember x (y ∷ ys) = (x ≡ y) ⊎ IsMember x ys

member_at : {K : Type 0} (xs : List K) (x : K) (k : ℕ) → k < length xs → get_or xs k x ≡ x → IsMember x xs
member_at [] x k within at = absurd (omega arith)
member_at (y ∷ ys) x zero within at = inl (sym at)
member_at (y ∷ ys) x (suc k) within at = inr (member_at ys x k (omega arith) at)

pub IsMember-from_contains : {K : Type 0} (xs : List K) (x : K) → Contains xs x → IsMember x xs
IsMember-from_contains xs x found = member_at xs x found.0 found.1 found.2

pub Contains-from_member : {K : Type 0} (xs : List K) (x : K) → IsMember x xs → Contains xs x
Contains-from_member [] x member = absurd member
Contains-from_member (y ∷ ys) x member =
    ⊎_elim (λ same. (0, omega arith, sym same)) (λ later. let found = Contains-from_member ys x later in (suc found.0, omega (arith, found.1), found.2)) member

pub member_passes : {K : Type 0} (P : K → Type 0) (xs : List K) (x : K) → AllByRecursion P xs → IsMember x xs → P x
member_passes P [] x each member = absurd member
member_passes P (y ∷ ys) x each member =
    ⊎_elim (λ same. subst P (sym same) each.0) (λ later. member_passes P ys x each.1 later) member

module _ {K : Type 0} (R : K → K → Ordering) (total : IsTotalOrder R) (exact : (x y : K) → R x y ≡ Equal → x ≡ y) where
  pub never_below_itself : (P : Type 0) (x y : K) → x ≡ y → R x y ≡ Less → P
  never_below_itself P x y same less =
      let itself : R x x ≡ Less = ap (R x) same ∙ less in
      let turned : Less ≡ Greater = sym itself ∙ total.antisymm x x ∙ ap ordering_reverse itself in cc

  never_both : (P : Type 0) (x y : K) → R x y ≡ Less → R y x ≡ Less → P
  never_both P x y less more =
      let turned : Less ≡ Greater = sym less ∙ total.antisymm x y ∙ ap ordering_reverse more in cc

  -- a member of a rising list is its head or above it
  rest_of : (a : K) (xs ys : List K) → AllByRecursion (λ y. R a y ≡ Less) xs → ((x : K) → IsMember x (a ∷ xs) → IsMember x (a ∷ ys)) → (x : K) → IsMember x xs → IsMember x ys
  rest_of a xs ys above members x member =
      ⊎_elim (λ same. never_below_itself _ a x (sym same) (member_passes (λ y. R a y ≡ Less) xs x above member)) (λ later. later) (members x (inr member))

  -- two rising lists with the same members are one
  pub rising_unique : (xs ys : List K) → IsStrictlySortedBy R xs → IsStrictlySortedBy R ys → ((x : K) → IsMember x xs → IsMember x ys) → ((x : K) → IsMember x ys → IsMember x xs) → xs ≡ ys
  unfolding IsStrictlySortedBy
  rising_unique [] [] as_rise bs_rise to from = refl
  rising_unique [] (b ∷ ys) as_rise bs_rise to from = absurd (from b (inl refl))
  rising_unique (a ∷ xs) [] as_rise bs_rise to from = absurd (to a (inl refl))
  rising_unique (a ∷ xs) (b ∷ ys) as_rise bs_rise to from =
      let heads : a ≡ b =
      ⊎_elim (λ same. same)
      (λ later. ⊎_elim (λ same. sym same)
      (λ other. never_both _ a b (member_passes (λ y. R a y ≡ Less) xs b as_rise.0 other) (member_passes (λ y. R b y ≡ Less) ys a bs_rise.0 later))
      (from b (inl refl)))
      (to a (inl refl)) in
      let tails : xs ≡ ys =
      rising_unique xs ys as_rise.1 bs_rise.1
      (rest_of a xs ys as_rise.0 (λ x member. subst (λ (h : K). IsMember x (h ∷ ys)) (sym heads) (to x member)))
      (rest_of b ys xs bs_rise.0 (λ x member. subst (λ (h : K). IsMember x (h ∷ xs)) heads (from x member))) in
      ap (λ h. h ∷ xs) heads ∙ ap (λ t. b ∷ t) tails

  each_insert : (P : K → Type 0) (ks : List K) (k : K) → P k → AllByRecursion P ks → AllByRecursion P (insert_key R ks k)
  each_insert P [] k one each = (one, tt)
  each_insert P (y ∷ ys) k one each =
      elim (R k y) as (λ r. AllByRecursion P (match_ordering r (k ∷ y ∷ ys) (y ∷ ys) (y ∷ insert_key R ys k))) [
        | Less ↦ (one, each)
        | Equal ↦ each
        | Greater ↦ (each.0, each_insert P ys k one each.1)
      ]

  above_too : (k y : K) (ys : List K) → R k y ≡ Less → AllByRecursion (λ z. R y z ≡ Less) ys → AllByRecursion (λ z. R k z ≡ Less) ys
  above_too k y [] less above = tt
  above_too k y (z ∷ zs) less above = (total.trans k y z less above.0, above_too k y zs less above.1)

  pub rising_insert : (ks : List K) (k : K) → IsStrictlySortedBy R ks → IsStrictlySortedBy R (insert_key R ks k)
  unfolding IsStrictlySortedBy
  rising_insert [] k rises = (tt, tt)
  rising_insert (y ∷ ys) k rises =
      elim (R k y) as (λ r. R k y ≡ r → IsStrictlySortedBy R (match_ordering r (k ∷ y ∷ ys) (y ∷ ys) (y ∷ insert_key R ys k))) [
        | Less ↦ λ is. ((is, above_too k y ys is rises.0), rises)
        | Equal ↦ λ is. rises
        | Greater ↦ λ is. (each_insert (λ z. R y z ≡ Less) ys k (total.antisymm y k ∙ ap ordering_reverse is) rises.0, rising_insert ys k rises.1)
      ] refl

  pub member_of_insert : (ks : List K) (k x : K) → IsMember x (insert_key R ks k) → (x ≡ k) ⊎ IsMember x ks
  member_of_insert [] k x member = member
  member_of_insert (y ∷ ys) k x member =
      elim (R k y) as (λ r. IsMember x (match_ordering r (k ∷ y ∷ ys) (y ∷ ys) (y ∷ insert_key R ys k)) → (x ≡ k) ⊎ IsMember x (y ∷ ys)) [
        | Less ↦ λ m. m
        | Equal ↦ λ m. inr m
        | Greater ↦ λ m. ⊎_elim (λ same. inr (inl same)) (λ later. ⊎_elim (λ same. inl same) (λ more. inr (inr more)) (member_of_insert ys k x later)) m
      ] member

  pub insert_of_member : (ks : List K) (k x : K) → (x ≡ k) ⊎ IsMember x ks → IsMember x (insert_key R ks k)
  insert_of_member [] k x member = member
  insert_of_member (y ∷ ys) k x member =
      elim (R k y) as (λ r. R k y ≡ r → IsMember x (match_ordering r (k ∷ y ∷ ys) (y ∷ ys) (y ∷ insert_key R ys k))) [
        | Less ↦ λ is. member
        | Equal ↦ λ is. ⊎_elim (λ same. inl (same ∙ exact k y is)) (λ m. m) member
        | Greater ↦ λ is. ⊎_elim (λ same. inr (insert_of_member ys k x (inl same))) (λ m. ⊎_elim (λ same. inl same) (λ later. inr (insert_of_member ys k x (inr later))) m) member
      ] refl

-- ---- RDATA

-- a canonical list: each RDATA is put at its place, unless it stands there
abbrev canonical_of : List (List ℕ) → List (List ℕ)
canonical_of [] = []
canonical_of (rdata ∷ received) = insert_key rdata_cmp (canonical_of received) rdata

rises_canonical : (received : List (List ℕ)) → IsStrictlySortedBy rdata_cmp (canonical_of received)
unfolding IsStrictlySortedBy
rises_canonical [] = tt
rises_canonical (rdata ∷ received) = rising_insert rdata_cmp nat_list_cmp_total exact_bytes (canonical_of received) rdata (rises_canonical received)

member_of_canonical : (received : List (List ℕ)) (x : List ℕ) → IsMember x (canonical_of received) → IsMember x received
member_of_canonical [] x member = member
member_of_canonical (rdata ∷ received) x member =
    ⊎_elim (λ same. inl same) (λ later. inr (member_of_canonical received x later)) (member_of_insert rdata_cmp nat_list_cmp_total exact_bytes (canonical_of received) rdata x member)

canonical_of_member : (received : List (List ℕ)) (x : List ℕ) → IsMember x received → IsMember x (canonical_of received)
canonical_of_member [] x member = member
canonical_of_member (rdata ∷ received) x member =
    insert_of_member rdata_cmp nat_list_cmp_total exact_bytes (canonical_of received) rdata x (⊎_elim (λ same. inl same) (λ later. inr (canonical_of_member received x later)) member)

-- there is at most one canonical list
pub canonical_unique : (received xs ys : List (List ℕ)) → IsCanonical received xs → IsCanonical received ys → xs ≡ ys
canonical_unique received xs ys first second =
    rising_unique rdata_cmp nat_list_cmp_total exact_bytes xs ys first.rising second.rising
    (λ x m. IsMember-from_contains ys x ((second.members x).1 ((first.members x).0 (Contains-from_member xs x m))))
    (λ x m. IsMember-from_contains xs x ((first.members x).1 ((second.members x).0 (Contains-from_member ys x m))))

canonical_of_is : (received : List (List ℕ)) → IsCanonical received (canonical_of received)
canonical_of_is received = record {
  rising = rises_canonical received;
  members = λ x. (
    λ found. Contains-from_member received x (member_of_canonical received x (IsMember-from_contains (canonical_of received) x found)),
    λ found. Contains-from_member (canonical_of received) x (canonical_of_member received x (IsMember-from_contains received x found)),
  );
}

-- there is one
pub canonical_some : (received : List (List ℕ)) → (canonical : List (List ℕ)) × IsCanonical received canonical
canonical_some received = (canonical_of received, canonical_of_is received)

-- ---- sorting and dropping repeats, seen by what the elements are

pub each_map : {X Y : Type 0} (f : X → Y) (P : Y → Type 0) (xs : List X) → AllByRecursion (λ x. P (f x)) xs → AllByRecursion P (map f xs)
each_map f P [] each = tt
each_map f P (x ∷ xs) each = (each.0, each_map f P xs each.1)

pub rising_map : {X Y : Type 0} (f : X → Y) (R : Y → Y → Ordering) (xs : List X) → IsStrictlySortedBy (λ a b. R (f a) (f b)) xs → IsStrictlySortedBy R (map f xs)
unfolding IsStrictlySortedBy
rising_map f R [] rises = tt
rising_map f R (x ∷ xs) rises = (each_map f (λ y. R (f x) y ≡ Less) xs rises.0, rising_map f R xs rises.1)

-- what a sort and then a `dedup` leave, by the octets
pub IsCanonical-sorted : {X : Type 0} (f : X → List ℕ) (received sorted kept : List X) → IsPermutation received sorted → IsSorted (λ a b. rdata_cmp (f a) (f b)) sorted → kept ≡ dedup (λ a b. pointwise nat_eq (f a) (f b)) sorted → IsCanonical (map f received) (map f kept)
IsCanonical-sorted f received sorted kept moved ordered is =
    let octets : map f kept ≡ dedup (pointwise nat_eq) (map f sorted) = ap (map f) is ∙ map-dedup f (pointwise nat_eq) sorted in
    let mapped : IsPermutation (map f received) (map f sorted) = IsPermutation-map f received sorted moved in
    record {
      rising = rw is (rising_map f rdata_cmp _ (IsStrictlySortedBy-dedup (on_texts f) (λ a b. texts_ties (f a) (f b)) sorted ordered));
      members = λ x. (
        λ found. Contains-permutation (map f sorted) (map f received) x (IsPermutation-sym _ _ mapped) (Contains-from_dedup (pointwise nat_eq) (map f sorted) x (rw octets at found)),
        λ found. rw octets (Contains-dedup (lists_equiv nat_eq_equiv) (λ a b same. (bytes_eq-Decides a b).0 same) (map f sorted) x (Contains-permutation (map f received) (map f sorted) x mapped found)),
      );
    }
