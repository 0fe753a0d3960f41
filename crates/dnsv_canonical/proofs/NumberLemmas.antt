-- What has a number, and the numbers of the RRsets of a name and type: which they are, and that they rise.
use Rattle.std.proofs.Common.{◌≡◌, ℕ, zero, suc, ◌+◌, ◌-◌, ◌<◌, ◌≤◌, Bool, true, false, cond, List, [], ◌∷◌, map, refl, sym, ap, ◌∙◌, subst, arith}
use Rattle.std.proofs.lemmas.Bool.Decides.{nat_tests}
use Rattle.std.specs.Prelude.{⊤, Contains, filter, Some, slice_get, ◌&&◌, ◌==◌}
use Rattle.std.specs.List.{AllByRecursion, enumerate_from}
use Rattle.dnsv_names.specs.Name.{Labels, SameName, same_name}
use Rattle.dnsv_names.specs.Order.OrderLaws.{same_name_Decides}
use Rattle.dnsv_canonical.specs.Rrsets.{IsNumbered, ReceivedRrset}
use Rattle.dnsv_canonical.specs.Index.{is_at, numbers_at}
use Rattle.dnsv_canonical.specs.Index.Grouping.{Numbered}
use Rattle.dnsv_canonical.proofs.ListLemmas.{each_chosen}
use Rattle.dnsv_canonical.proofs.OrderLemmas.{each_kept}
use Rattle.dnsv_canonical.proofs.IndexLemmas.InOrder.{each_get}
use Rattle.dnsv_canonical.proofs.IndexLemmas.Layout.{each_numbered}

-- a number is that of one member
pub one_numbered : {X : Type 0} (xs : List X) (number : ℕ) (x y : X) → IsNumbered xs number x → IsNumbered xs number y → x ≡ y
one_numbered xs number x y first second = let both : Some x ≡ Some y = sym first.1 ∙ second.1 in cc

-- ---- any test

module _ (test : ReceivedRrset → Bool) where
  abbrev passes : Numbered → Bool
  passes x = test x.1

  -- the numbers, from `n` on, of those that pass
  abbrev passing : ℕ → List ReceivedRrset → List ℕ
  passing n rrsets = map (λ (x : Numbered). x.0) (filter passes (enumerate_from n rrsets))

  deeper : (answer : Bool) (n k : ℕ) (rest : List Numbered) → Contains (map (λ (x : Numbered). x.0) rest) k → (r : ReceivedRrset) → Contains (map (λ (x : Numbered). x.0) (cond answer ((n, r) ∷ rest) rest)) k
  deeper true n k rest there r = (suc there.0, omega (arith, there.1), there.2)
  deeper false n k rest there r = there

  has_each : (n : ℕ) (rrsets : List ReceivedRrset) (i : ℕ) (rrset : ReceivedRrset) → slice_get rrsets i ≡ Some rrset → test rrset ≡ true → Contains (passing n rrsets) (n + i)
  has_each n [] i rrset at is = cc
  has_each n (r ∷ rs) zero rrset at is =
      let same : r ≡ rrset = cc in
      let none : n ≡ n + 0 = omega arith in
      let first : Contains (map (λ (x : Numbered). x.0) (cond true ((n, r) ∷ filter passes (enumerate_from (n + 1) rs)) (filter passes (enumerate_from (n + 1) rs)))) (n + 0) = (0, omega arith, none) in
      subst (λ answer. Contains (map (λ (x : Numbered). x.0) (cond answer ((n, r) ∷ filter passes (enumerate_from (n + 1) rs)) (filter passes (enumerate_from (n + 1) rs)))) (n + 0)) (sym (ap test same ∙ is)) first
  has_each n (r ∷ rs) (suc i) rrset at is =
      let next : n + 1 + i ≡ n + suc i = omega arith in
      deeper (test r) n (n + suc i) (filter passes (enumerate_from (n + 1) rs)) (subst (Contains (passing (n + 1) rs)) next (has_each (n + 1) rs i rrset at is)) r

-- ---- those of a name and type

-- the RRset with the number is of the name and type
pub record IsOneAt (rrsets : List ReceivedRrset) (name : Labels) (rtype k : ℕ) : Type 0 where
  pub rrset : ReceivedRrset
  pub is_rrset : IsNumbered rrsets k rrset
  pub owner : SameName rrset.owner name
  pub same_type : rrset.rtype ≡ rtype

both : (a b : Bool) → a ≡ true → b ≡ true → (a && b) ≡ true
both true true one other = refl
both true false one other = other
both false b one other = one

first : (a b : Bool) → (a && b) ≡ true → a ≡ true
first true b all = refl
first false b all = all

second : (a b : Bool) → (a && b) ≡ true → b ≡ true
second true b all = all
second false b all = cc

-- each that has a number is there
pub has_number : (rrsets : List ReceivedRrset) (name : Labels) (rtype k : ℕ) → IsOneAt rrsets name rtype k → Contains (numbers_at rrsets name rtype) k
has_number rrsets name rtype k one =
    let number : 1 + (k - 1) ≡ k = omega (arith, one.is_rrset.0) in
    let named : same_name one.rrset.owner name ≡ true = (same_name_Decides one.rrset.owner name).1 one.owner in
    let typed : (one.rrset.rtype == rtype) ≡ true = grind (arith, nat_tests, one.same_type) in
    subst (Contains (numbers_at rrsets name rtype)) number
    (has_each (is_at name rtype) 1 rrsets (k - 1) one.rrset one.is_rrset.1 (both (same_name one.rrset.owner name) (one.rrset.rtype == rtype) named typed))

at_number : (rrsets : List ReceivedRrset) (name : Labels) (rtype : ℕ) (x : Numbered) → IsNumbered rrsets x.0 x.1 → is_at name rtype x.1 ≡ true → IsOneAt rrsets name rtype x.0
at_number rrsets name rtype x is passes =
    let typed : (x.1.rtype == rtype) ≡ true = second (same_name x.1.owner name) (x.1.rtype == rtype) passes in record {
      rrset = x.1;
      is_rrset = is;
      owner = (same_name_Decides x.1.owner name).0 (first (same_name x.1.owner name) (x.1.rtype == rtype) passes);
      same_type = grind (arith, nat_tests, typed);
    }

each_mapped : {X Y : Type 0} (P : Y → Type 0) (f : X → Y) (xs : List X) → AllByRecursion (λ x. P (f x)) xs → AllByRecursion P (map f xs)
each_mapped P f [] each = tt
each_mapped P f (x ∷ xs) each = (each.0, each_mapped P f xs each.1)

-- and each that is there has a number
pub each_number : (rrsets : List ReceivedRrset) (name : Labels) (rtype : ℕ) → AllByRecursion (IsOneAt rrsets name rtype) (numbers_at rrsets name rtype)
each_number rrsets name rtype =
    each_mapped (IsOneAt rrsets name rtype) (λ (x : Numbered). x.0) (filter (λ (x : Numbered). is_at name rtype x.1) (enumerate_from 1 rrsets))
    (each_chosen (λ (x : Numbered). is_at name rtype x.1) (λ (x : Numbered). IsNumbered rrsets x.0 x.1) (λ (x : Numbered). IsOneAt rrsets name rtype x.0)
    (at_number rrsets name rtype) (enumerate_from 1 rrsets) (each_numbered rrsets))

-- ---- their order

-- each comes before all behind it
abbrev AreRisingNumbers : List ℕ → Type 0
AreRisingNumbers [] = ⊤
AreRisingNumbers (k ∷ ks) = AllByRecursion (λ j. k < j) ks × AreRisingNumbers ks

module _ (n : ℕ) (r : ReceivedRrset) (rest : List Numbered) where
  -- with one more in front, or not
  abbrev with_this : Bool → List ℕ
  with_this answer = map (λ (x : Numbered). x.0) (cond answer ((n, r) ∷ rest) rest)

  none_below : (answer : Bool) → AllByRecursion (λ j. n + 1 ≤ j) (map (λ (x : Numbered). x.0) rest) → AllByRecursion (λ j. n ≤ j) (with_this answer)
  none_below true behind = (omega arith, each_kept (λ j. n + 1 ≤ j) (λ j. n ≤ j) (map (λ (x : Numbered). x.0) rest) (λ j past. omega (arith, past)) behind)
  none_below false behind = each_kept (λ j. n + 1 ≤ j) (λ j. n ≤ j) (map (λ (x : Numbered). x.0) rest) (λ j past. omega (arith, past)) behind

  still_rising : (answer : Bool) → AllByRecursion (λ j. n + 1 ≤ j) (map (λ (x : Numbered). x.0) rest) → AreRisingNumbers (map (λ (x : Numbered). x.0) rest) → AreRisingNumbers (with_this answer)
  still_rising true behind rising = (each_kept (λ j. n + 1 ≤ j) (λ j. n < j) (map (λ (x : Numbered). x.0) rest) (λ j past. omega (arith, past)) behind, rising)
  still_rising false behind rising = rising

module _ (test : ReceivedRrset → Bool) where
  from_here : (n : ℕ) (rrsets : List ReceivedRrset) → AllByRecursion (λ j. n ≤ j) (passing test n rrsets)
  from_here n [] = tt
  from_here n (r ∷ rs) = none_below n r (filter (passes test) (enumerate_from (n + 1) rs)) (test r) (from_here (n + 1) rs)

  rise : (n : ℕ) (rrsets : List ReceivedRrset) → AreRisingNumbers (passing test n rrsets)
  rise n [] = tt
  rise n (r ∷ rs) = still_rising n r (filter (passes test) (enumerate_from (n + 1) rs)) (test r) (from_here (n + 1) rs) (rise (n + 1) rs)

not_above : (ks : List ℕ) (i p k j : ℕ) → AreRisingNumbers ks → slice_get ks i ≡ Some k → slice_get ks p ≡ Some j → i ≤ p → k ≤ j
not_above [] i p k j rising at other order = cc
not_above (x ∷ xs) zero zero k j rising at other order = let same : k ≡ j = cc in omega (arith, same)
not_above (x ∷ xs) zero (suc p) k j rising at other order =
    let is : x ≡ k = cc in
    let less : x < j = each_get (λ n. x < n) xs p j rising.0 other in
    omega (arith, is, less)
not_above (x ∷ xs) (suc i) zero k j rising at other order = absurd (omega (arith, order))
not_above (x ∷ xs) (suc i) (suc p) k j rising at other order = not_above xs i p k j rising.1 at other (omega (arith, order))

-- the one that stands before another is no greater
pub numbers_rise : (rrsets : List ReceivedRrset) (name : Labels) (rtype i p k j : ℕ) → slice_get (numbers_at rrsets name rtype) i ≡ Some k → slice_get (numbers_at rrsets name rtype) p ≡ Some j → i ≤ p → k ≤ j
numbers_rise rrsets name rtype i p k j at other order =
    not_above (numbers_at rrsets name rtype) i p k j (rise (is_at name rtype) 1 rrsets) at other order
