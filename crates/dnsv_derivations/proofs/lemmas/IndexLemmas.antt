-- The RRsets of a name and type by their numbers, looked at one after another.
use Rattle.std.proofs.Common.{◌≡◌, ◌<◌, ◌≤◌, ◌+◌, ◌-◌, ℕ, zero, suc, Bool, true, false, cond, List, [], ◌∷◌, length, map, get_or, sym, ap, ◌∙◌, subst, ⊎_elim, arith}
use Rattle.std.proofs.lemmas.Bool.{cases_lt}
use Rattle.std.proofs.lemmas.List.{get_or_default, get_or_past}
use Rattle.std.proofs.lemmas.Option.{slice_get_within}
use Rattle.std.specs.Prelude.{Contains, filter}
use Rattle.std.specs.List.{AllByRecursion, enumerate_from}
use Rattle.dnsv_names.specs.Name.{Labels}
use Rattle.dnsv_canonical.specs.Index.{is_at, numbers_at}
use Rattle.dnsv_canonical.specs.Index.Grouping.{Numbered}
use Rattle.dnsv_canonical.specs.Rrsets.{ReceivedRrset}
use Rattle.dnsv_canonical.proofs.NumberLemmas.{IsOneAt, each_number, has_number}
use Rattle.dnsv_derivations.specs.derivations.WaySearch.{number_or_end}
use Rattle.dnsv_derivations.proofs.lemmas.derivations.WayLemmas.KeysLemmas.{each_at}

-- ---- numbers that rise, from one on

record AreRisingFrom (n : ℕ) (numbers : List ℕ) : Type 0 where
  from : (i : ℕ) → i < length numbers → n ≤ get_or numbers i 0
  rising : (i p : ℕ) → i < p → p < length numbers → get_or numbers i 0 < get_or numbers p 0

with_front : (n : ℕ) (numbers : List ℕ) → AreRisingFrom (n + 1) numbers → AreRisingFrom n (n ∷ numbers)
with_front n numbers are = record { from = from_here; rising = rises } where
  from_here : (i : ℕ) → i < length (n ∷ numbers) → n ≤ get_or (n ∷ numbers) i 0
  from_here zero within = omega arith
  from_here (suc i) within = let behind = are.from i (omega (arith, within)) in omega (arith, behind)

  rises : (i p : ℕ) → i < p → p < length (n ∷ numbers) → get_or (n ∷ numbers) i 0 < get_or (n ∷ numbers) p 0
  rises i zero order within = absurd (omega (arith, order))
  rises zero (suc p) order within = let behind = are.from p (omega (arith, within)) in omega (arith, behind)
  rises (suc i) (suc p) order within = are.rising i p (omega (arith, order)) (omega (arith, within))

without_front : (n : ℕ) (numbers : List ℕ) → AreRisingFrom (n + 1) numbers → AreRisingFrom n numbers
without_front n numbers are = record {
  from = λ i within. let behind = are.from i within in omega (arith, behind);
  rising = are.rising;
}

chosen : (answer : Bool) (n : ℕ) (rrset : ReceivedRrset) (rest : List Numbered)
    → AreRisingFrom (n + 1) (map (λ (x : Numbered). x.0) rest)
    → AreRisingFrom n (map (λ (x : Numbered). x.0) (cond answer ((n, rrset) ∷ rest) rest))
chosen true n rrset rest are = with_front n (map (λ (x : Numbered). x.0) rest) are
chosen false n rrset rest are = without_front n (map (λ (x : Numbered). x.0) rest) are

none_rise : (n : ℕ) → AreRisingFrom n []
none_rise n = record {
  from = λ i within. absurd (omega (arith, within));
  rising = λ i p order within. absurd (omega (arith, within));
}

those_rise : (test : ReceivedRrset → Bool) (n : ℕ) (rrsets : List ReceivedRrset)
    → AreRisingFrom n (map (λ (x : Numbered). x.0) (filter (λ (x : Numbered). test x.1) (enumerate_from n rrsets)))
those_rise test n [] = none_rise n
those_rise test n (rrset ∷ rest) =
    chosen (test rrset) n rrset (filter (λ (x : Numbered). test x.1) (enumerate_from (n + 1) rest)) (those_rise test (n + 1) rest)

-- ---- one after another

module _ (rrsets : List ReceivedRrset) (name : Labels) (rtype : ℕ) (numbers : List ℕ) (are : numbers ≡ numbers_at rrsets name rtype) where
  they_rise : AreRisingFrom 1 numbers
  they_rise =
      let Are : List ℕ → Type 0 = λ each. AreRisingFrom 1 each in subst Are (sym are) (those_rise (is_at name rtype) 1 rrsets)

  place_of : (k : ℕ) → IsOneAt rrsets name rtype k → Contains numbers k
  place_of k one = let In : List ℕ → Type 0 = λ each. Contains each k in subst In (sym are) (has_number rrsets name rtype k one)

  abbrev bound : ℕ → ℕ
  bound i = number_or_end rrsets numbers i

  pub bound_within : (i : ℕ) → i < length numbers → bound i ≡ get_or numbers i 0
  bound_within i within = get_or_default numbers i (length rrsets + 1) 0 within

  pub bound_past : (i : ℕ) → length numbers ≤ i → bound i ≡ length rrsets + 1
  bound_past i past = get_or_past numbers i (length rrsets + 1) past

  -- each of the numbers is that of an RRset
  pub one_there : (i : ℕ) → i < length numbers → IsOneAt rrsets name rtype (get_or numbers i 0)
  one_there i within =
      let All : List ℕ → Type 0 = λ each. AllByRecursion (IsOneAt rrsets name rtype) each in
      each_at (IsOneAt rrsets name rtype) numbers i (get_or numbers i 0) (subst All (sym are) (each_number rrsets name rtype)) within
      (get_or_default numbers i 0 (get_or numbers i 0) within)

  -- one that stands at a place or behind it isn't below the place's number
  at_most : (i p k : ℕ) → i ≤ p → p < length numbers → get_or numbers p k ≡ k → bound i ≤ k
  at_most i p k order within is =
      let first = bound_within i (omega (arith, order, within)) in
      let last : get_or numbers p 0 ≡ k = get_or_default numbers p 0 k within ∙ is in ⊎_elim
      (λ (later : i < p). let rise = they_rise.rising i p later within in omega (arith, first, rise, last))
      (λ (here : p ≤ i).
      let same : p ≡ i = omega (arith, here, order) in
      let middle : get_or numbers p 0 ≡ get_or numbers i 0 = ap (λ (j : ℕ). get_or numbers j 0) same in
      omega (arith, first, middle, last))
      (cases_lt i p)

  pub first_at_most : (k : ℕ) → IsOneAt rrsets name rtype k → bound 0 ≤ k
  first_at_most k one = let at = place_of k one in at_most 0 at.0 k (omega arith) at.1 at.2

  -- there is none between a number and the next
  pub next_at_most : (i k : ℕ) → i < length numbers → get_or numbers i 0 < k → IsOneAt rrsets name rtype k → bound (i + 1) ≤ k
  next_at_most i k within above one =
      let at = place_of k one in
      let place = at.1 in
      let is : get_or numbers at.0 0 ≡ k = get_or_default numbers at.0 0 k at.1 ∙ at.2 in ⊎_elim
      (λ (later : i < at.0). at_most (i + 1) at.0 k (omega (arith, later)) at.1 at.2)
      (λ (not_later : at.0 ≤ i).
      let first = bound_within i within in
      let back = at_most at.0 i (get_or numbers i 0) not_later within (get_or_default numbers i (get_or numbers i 0) 0 within) in
      let there = bound_within at.0 at.1 in
      absurd (omega (arith, back, there, is, above)))
      (cases_lt i at.0)

  -- the next number is higher
  pub next_above : (i : ℕ) → i < length numbers → get_or numbers i 0 < bound (i + 1)
  next_above i within = ⊎_elim
      (λ (inside : i + 1 < length numbers).
      let next = bound_within (i + 1) inside in
      let rise = they_rise.rising i (i + 1) (omega arith) inside in
      omega (arith, next, rise))
      (λ (past : length numbers ≤ i + 1).
      let one = one_there i within in
      let inside = slice_get_within rrsets (get_or numbers i 0 - 1) one.rrset one.is_rrset.1 in
      let last = bound_past (i + 1) past in
      omega (arith, inside, last))
      (cases_lt (i + 1) (length numbers))

-- the same numbers under other names
pub same_numbers : (rrsets all : List ReceivedRrset) (name other : Labels) (rtype : ℕ) (numbers : List ℕ)
    → numbers ≡ numbers_at rrsets name rtype → rrsets ≡ all → name ≡ other → numbers ≡ numbers_at all other rtype
same_numbers rrsets all name other rtype numbers are same renamed =
    are ∙ ap (λ (each : List ReceivedRrset). numbers_at each name rtype) same ∙ ap (λ (each : Labels). numbers_at all each rtype) renamed
