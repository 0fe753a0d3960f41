-- Rising lists: an element at the end, and the elements at some places.
use Rattle.std.proofs.Common.{◌≡◌, ◌+◌, ◌<◌, ◌≤◌, ◌⊎◌, ℕ, zero, suc, List, [], ◌∷◌, ◌++◌, length, get_or, map, refl, sym, ap, ◌∙◌, arith, ⊎_elim}
use Rattle.std.proofs.lemmas.Bool.{cases_lt}
use Rattle.std.proofs.lemmas.Cmp.{ranked}
use Rattle.std.proofs.lemmas.List.Elements.{Contains-append_cases, Contains-append_right}
use Rattle.std.specs.Cmp.{nat_cmp_is}
use Rattle.std.specs.List.{AllByRecursion}
use Rattle.std.specs.List.Sorted.{IsStrictlySortedBy}
use Rattle.std.specs.Ordering.{nat_cmp}
use Rattle.std.specs.Prelude.{Contains, Some, slice_get}
use Rattle.std.specs.declared.cmp.Ordering.{Ordering}
use Rattle.std.specs.declared.cmp.Ordering.TheVariants.{Less, Equal}
use Rattle.dnsv_canonical.proofs.OrderLemmas.{each_of}
use Rattle.dnsv_canonical.specs.declared.number.RecordNumber.{RecordNumber}
use Rattle.dnsv_records.specs.OctetLaws.{recursion-append}
use Rattle.dnsv_denial.proofs.lemmas.gathering.AlikeLemmas.{before_less, in_order}
use Rattle.dnsv_proof_forms.specs.records.Numbers.{number_at}
use Rattle.dnsv_proof_forms.specs.records.Numbers.{number_cmp}
use Rattle.dnsv_denial.proofs.lemmas.proving.ZoneChainLemmas.{there_or}

pub rising_push : {K : Type 0} (c : K → K → Ordering) (xs : List K) (z : K) → IsStrictlySortedBy c xs
    → ((y : K) → Contains xs y → c y z ≡ Less) → IsStrictlySortedBy c (xs ++ z ∷ [])
unfolding IsStrictlySortedBy
rising_push c [] z rising below = (tt, tt)
rising_push c (x ∷ xs) z rising below = (
  recursion-append (λ y. c x y ≡ Less) xs (z ∷ []) rising.0 (below x (0, omega arith, refl), tt),
  rising_push c xs z rising.1 (λ y there. below y (Contains-append_right (x ∷ []) xs y there)),
)

pub nat_less : (a b : ℕ) → a < b → nat_cmp a b ≡ Less
nat_less a b less = sym (nat_cmp_is a b Less less)

pub less_nat : (a b : ℕ) → nat_cmp a b ≡ Less → a < b
less_nat a b less = ranked a b Less (sym less)

-- ---- the numbers at rising places

pub number_there : (numbers : List RecordNumber) (k : ℕ) → k < length numbers → slice_get numbers k ≡ Some (number_at numbers k)
number_there numbers k small = there_or numbers (record { rrset = 0; place = 0 }) k small

pub numbers_rising : (numbers : List RecordNumber) → IsStrictlySortedBy number_cmp numbers → (places : List ℕ)
    → IsStrictlySortedBy nat_cmp places → AllByRecursion (λ p. p < length numbers) places
    → IsStrictlySortedBy number_cmp (map (number_at numbers) places)
unfolding IsStrictlySortedBy
numbers_rising numbers order [] rising within = tt
numbers_rising numbers order (p ∷ places) rising within = (
  later places rising.0 within.1,
  numbers_rising numbers order places rising.1 within.1,
) where
  later : (qs : List ℕ) → AllByRecursion (λ q. nat_cmp p q ≡ Less) qs → AllByRecursion (λ q. q < length numbers) qs
      → AllByRecursion (λ n. number_cmp (number_at numbers p) n ≡ Less) (map (number_at numbers) qs)
  later [] less inside = tt
  later (q ∷ qs) less inside = (
    before_less numbers q p (number_at numbers q) (number_at numbers p) order (number_there numbers q inside.0)
        (number_there numbers p within.0) (less_nat p q less.0),
    later qs less.1 inside.1,
  )

-- ---- numbers in order

equal_itself : (n : RecordNumber) → number_cmp n n ≡ Equal
equal_itself n =
    let rrset : nat_cmp n.rrset n.rrset ≡ Equal = sym (nat_cmp_is n.rrset n.rrset Equal refl) in
    let place : nat_cmp n.place n.place ≡ Equal = sym (nat_cmp_is n.place n.place Equal refl) in
    rw rrset (rw place refl)

not_itself : (n : RecordNumber) → number_cmp n n ≡ Less → ⊥
not_itself n less = let turned : Less ≡ Equal = sym less ∙ equal_itself n in cc

-- the number at an earlier place isn't behind
pub not_before : (numbers : List RecordNumber) → IsStrictlySortedBy number_cmp numbers → (i j : ℕ) (a b : RecordNumber)
    → slice_get numbers i ≡ Some a → slice_get numbers j ≡ Some b → j ≤ i → number_cmp a b ≡ Less → ⊥
not_before numbers order i j a b at_a at_b early less =
    let sooner = (in_order numbers order).later i j a b at_a at_b less in absurd (omega (arith, sooner, early))

pub same_place : (numbers : List RecordNumber) → IsStrictlySortedBy number_cmp numbers → (i j : ℕ) (n : RecordNumber)
    → slice_get numbers i ≡ Some n → slice_get numbers j ≡ Some n → i ≡ j
same_place numbers order i j n at_i at_j =
    ⊎_elim (λ (before : i < j). absurd (not_itself n (before_less numbers j i n n order at_j at_i before)))
    (λ (from : j ≤ i). ⊎_elim (λ (behind : j < i). absurd (not_itself n (before_less numbers i j n n order at_i at_j behind)))
    (λ (to : i ≤ j). omega (arith, from, to)) (cases_lt j i))
    (cases_lt i j)

pub first_of_rising : (p : ℕ) (ps : List ℕ) → IsStrictlySortedBy nat_cmp (p ∷ ps) → (q : ℕ) → Contains (p ∷ ps) q → p ≤ q
unfolding IsStrictlySortedBy
first_of_rising p ps rising q there =
    ⊎_elim (λ (here : Contains (p ∷ []) q). alone q here)
    (λ (later : Contains ps q).
    let less = less_nat p q (each_of (λ (m : ℕ). nat_cmp p m ≡ Less) ps q rising.0 later) in omega (arith, less))
    (Contains-append_cases (p ∷ []) ps q there) where
      alone : (q : ℕ) → Contains (p ∷ []) q → p ≤ q
      alone q (zero, within, at) = let same : p ≡ q = at in omega (arith, same)
      alone q (suc k, within, at) = absurd (omega (arith, within))

-- ---- members of a list that is mapped

map_at : {X Y : Type 0} (f : X → Y) (x : X) (xs : List X) (k : ℕ) → k < length xs → get_or xs k x ≡ x → Contains (map f xs) (f x)
map_at f x [] k within is = absurd (omega (arith, within))
map_at f x (y ∷ ys) zero within is = (0, omega arith, ap f is)
map_at f x (y ∷ ys) (suc k) within is =
    Contains-append_right (f y ∷ []) (map f ys) (f x) (map_at f x ys k (omega (arith, within)) is)

pub contains_map : {X Y : Type 0} (f : X → Y) (xs : List X) (x : X) → Contains xs x → Contains (map f xs) (f x)
contains_map f xs x there = map_at f x xs there.0 there.1 there.2

from_at : {X Y : Type 0} (f : X → Y) (y : Y) (xs : List X) (k : ℕ) → k < length (map f xs) → get_or (map f xs) k y ≡ y
    → (x : X) × Contains xs x × (f x ≡ y)
from_at f y [] k within is = absurd (omega (arith, within))
from_at f y (x ∷ xs) zero within is = (x, (0, omega arith, refl), is)
from_at f y (x ∷ xs) (suc k) within is =
    let it = from_at f y xs k (omega (arith, within)) is in (it.0, Contains-append_right (x ∷ []) xs it.0 it.1, it.2)

pub mapped_from : {X Y : Type 0} (f : X → Y) (xs : List X) (y : Y) → Contains (map f xs) y → (x : X) × Contains xs x × (f x ≡ y)
mapped_from f xs y there = from_at f y xs there.0 there.1 there.2
