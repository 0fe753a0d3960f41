-- The signatures of an RRset are put in one order.
use Rattle.std.proofs.Common.{◌≡◌, ◌∙◌, ◌+◌, ◌<◌, ℕ, Bool, true, false, List, [], ◌∷◌, cond, map, ⊎_elim, arith, refl, sym, ap, subst}
use Rattle.std.proofs.lemmas.Bool.{cases_Bool}
use Rattle.std.proofs.lemmas.Cmp.{eq_by_cmp_equiv}
use Rattle.std.proofs.lemmas.List.Kept.{IsStrictlySortedBy-dedup}
use Rattle.std.proofs.lemmas.List.Sorted.{Contains-permutation, IsPermutation-map, IsPermutation-sym}
use Rattle.std.proofs.lemmas.Map.Keys.{IsDistinct-IsPermutation}
use Rattle.std.proofs.lemmas.Map.Lookups.{exact_unsigned}
use Rattle.std.specs.Prelude.{Contains, IsPermutation}
use Rattle.std.specs.List.{AllByRecursion, AllZip, IsDistinct, dedup, dedup_from, enumerate_from}
use Rattle.std.specs.List.Sorted.{IsSorted, IsStrictlySortedBy}
use Rattle.std.specs.Ordering.{eq_by_cmp, is_eq, nat_cmp, ordering_then}
use Rattle.std.specs.declared.cmp.Ordering.{Ordering}
use Rattle.std.specs.declared.cmp.Ordering.TheVariants.{Equal}
use Rattle.dnsv_records.specs.Rrsig.{IsRrsig}
use Rattle.dnsv_records.specs.declared.rrsig.Rrsig.{Rrsig}
use Rattle.dnsv_records.proofs.OneRecord.{one_rrsig}
use Rattle.dnsv_canonical.proofs.CanonicalLemmas.{rising_unique, Contains-from_member, IsMember-from_contains}
use Rattle.dnsv_canonical.specs.Rrsets.{ReceivedRrset}
use Rattle.dnsv_faults.specs.Rrsets.{AreInOrder, Rank, rank_cmp, rank_of}
use Rattle.dnsv_faults.proofs.lemmas.OrderLemmas.{rank_cmp_total, sorted_map}

-- ---- ranks

first_equal : (o p : Ordering) → ordering_then o p ≡ Equal → o ≡ Equal
first_equal Equal p is = refl
first_equal o p is = is

second_equal : (o p : Ordering) → ordering_then o p ≡ Equal → p ≡ Equal
second_equal Equal p is = is
second_equal o p is = absurd (cc is)

equal : (o : Ordering) → is_eq o ≡ true → o ≡ Equal
equal Equal is = refl
equal o is = absurd (cc is)

one_rank : (a b : Rank) → rank_cmp a b ≡ Equal → a ≡ b
one_rank a b is =
    let of_labels : Ordering = nat_cmp b.labels a.labels in
    let of_numbers : Ordering = nat_cmp a.number b.number in
    let labels : b.labels ≡ a.labels = exact_unsigned b.labels a.labels (first_equal of_labels of_numbers is) in
    let number : a.number ≡ b.number = exact_unsigned a.number b.number (second_equal of_labels of_numbers is) in
    λ i. record { labels = sym labels i; number = number i }

abbrev same : Rank → Rank → Bool
same = eq_by_cmp rank_cmp

either_way : (a b : Rank) → same a b ≡ same b a
either_way a b = (eq_by_cmp_equiv rank_cmp_total).symm a b

apart : (a b : Rank) → a.number < b.number → same a b ≡ false
apart a b less =
    ⊎_elim
    (λ (is : same a b ≡ true).
    let number : a.number ≡ b.number = ap (λ (each : Rank). each.number) (one_rank a b (equal (rank_cmp a b) is)) in
    absurd (omega (arith, less, number)))
    (λ (is : same a b ≡ false). is)
    (cases_Bool (same a b))

-- ---- ranks of numbered signatures

abbrev ranks_from : ℕ → List Rrsig → List Rank
ranks_from n signatures = map rank_of (enumerate_from n signatures)

all_apart : (r : Rank) (n : ℕ) (signatures : List Rrsig) → r.number < n
    → AllByRecursion (λ other. same r other ≡ false) (ranks_from n signatures)
all_apart r n [] less = tt
all_apart r n (rrsig ∷ signatures) less =
    (apart r (rank_of (n, rrsig)) less, all_apart r (n + 1) signatures (omega (arith, less)))

distinct : (n : ℕ) (signatures : List Rrsig) → IsDistinct same (ranks_from n signatures)
unfolding IsDistinct
distinct n [] = tt
distinct n (rrsig ∷ signatures) = (all_apart (rank_of (n, rrsig)) (n + 1) signatures (omega arith), distinct (n + 1) signatures)

-- where no two are the same there are no repeats to drop
none_behind : (r : Rank) (ranks : List Rank) → AllByRecursion (λ other. same r other ≡ false) ranks → IsDistinct same ranks
    → dedup_from same r ranks ≡ r ∷ ranks
unfolding IsDistinct
none_behind r [] all apart_all = refl
none_behind r (other ∷ ranks) all apart_all =
    let differs : same other r ≡ false = either_way other r ∙ all.0 in
    ap (λ (b : Bool). cond b (dedup_from same r ranks) (r ∷ dedup_from same other ranks)) differs
    ∙ ap (λ (rest : List Rank). r ∷ rest) (none_behind other ranks apart_all.0 apart_all.1)

none_dropped : (ranks : List Rank) → IsDistinct same ranks → dedup same ranks ≡ ranks
unfolding IsDistinct
none_dropped [] all = refl
none_dropped (r ∷ ranks) all = none_behind r ranks all.0 all.1

rising : (ranks : List Rank) → IsSorted rank_cmp ranks → IsDistinct same ranks → IsStrictlySortedBy rank_cmp ranks
rising ranks sorted all =
    subst (λ (each : List Rank). IsStrictlySortedBy rank_cmp each) (none_dropped ranks all)
    (IsStrictlySortedBy-dedup rank_cmp_total (λ a b. refl) ranks sorted)

-- ---- one order

one_read : (xs : List (List ℕ)) (a b : List Rrsig) → AllZip IsRrsig xs a → AllZip IsRrsig xs b → a ≡ b
one_read [] [] [] p q = refl
one_read [] [] (y ∷ b) p q = absurd q
one_read [] (x ∷ a) b p q = absurd p
one_read (o ∷ xs) [] b p q = absurd p
one_read (o ∷ xs) (x ∷ a) [] p q = absurd q
one_read (o ∷ xs) (x ∷ a) (y ∷ b) p q =
    let head : x ≡ y = one_rrsig o x y p.0 q.0 in
    let tail : a ≡ b = one_read xs a b p.1 q.1 in
    λ i. head i ∷ tail i

module _ (signatures : List Rrsig) (order : List (ℕ × Rrsig)) (moved : IsPermutation (enumerate_from 1 signatures) order) where
  ranks_moved : IsPermutation (ranks_from 1 signatures) (map rank_of order)
  ranks_moved = IsPermutation-map rank_of (enumerate_from 1 signatures) order moved

  ranks_rise : IsSorted rank_cmp (map rank_of order) → IsStrictlySortedBy rank_cmp (map rank_of order)
  ranks_rise sorted =
      rising (map rank_of order) sorted
      (IsDistinct-IsPermutation same either_way (ranks_from 1 signatures) (map rank_of order) ranks_moved (distinct 1 signatures))

  to : (r : Rank) → Contains (map rank_of order) r → Contains (ranks_from 1 signatures) r
  to r there =
      Contains-permutation (map rank_of order) (ranks_from 1 signatures) r
      (IsPermutation-sym (ranks_from 1 signatures) (map rank_of order) ranks_moved) there

  from : (r : Rank) → Contains (ranks_from 1 signatures) r → Contains (map rank_of order) r
  from r there = Contains-permutation (ranks_from 1 signatures) (map rank_of order) r ranks_moved there

-- two orders have the same ranks, and so the same numbers
pub one_order : (rrset : ReceivedRrset) (a b : List (ℕ × Rrsig)) → AreInOrder rrset a → AreInOrder rrset b → map rank_of a ≡ map rank_of b
one_order rrset a b x y =
    let read : x.signatures ≡ y.signatures = one_read rrset.signatures x.signatures y.signatures x.read y.read in
    let Moved : List Rrsig → Type 0 = λ each. IsPermutation (enumerate_from 1 each) a in
    let moved : IsPermutation (enumerate_from 1 y.signatures) a = subst Moved read x.moved in
    rising_unique rank_cmp rank_cmp_total one_rank (map rank_of a) (map rank_of b)
    (ranks_rise y.signatures a moved (sorted_map rank_of (λ (r : Rank). r) rank_cmp a x.rising))
    (ranks_rise y.signatures b y.moved (sorted_map rank_of (λ (r : Rank). r) rank_cmp b y.rising))
    (λ r m. IsMember-from_contains (map rank_of b) r
    (from y.signatures b y.moved r (to y.signatures a moved r (Contains-from_member (map rank_of a) r m))))
    (λ r m. IsMember-from_contains (map rank_of a) r
    (from y.signatures a moved r (to y.signatures b y.moved r (Contains-from_member (map rank_of b) r m))))
