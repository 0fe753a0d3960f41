-- The numbers of a proof's records: each once, and rising.
use Rattle.std.proofs.Common.{◌≡◌, ◌&&◌, ℕ, ◌+◌, Bool, true, false, List, [], ◌∷◌, ◌++◌, map, take, drop, length, refl, sym, ap, ◌∙◌, subst, ⊎_elim}
use Rattle.std.proofs.lemmas.Bool.{and_from, and_parts, eqb-true}
use Rattle.std.proofs.lemmas.Cmp.{nat_eq_equiv, nat_cmp_total, on_total, then_total}
use Rattle.std.proofs.lemmas.List.{map-append}
use lib.Seq.{take-append_seam}
use Rattle.std.proofs.lemmas.List.Elements.{Contains-append_left, Contains-append_right, Contains-append_cases, Contains-push_cases}
use Rattle.std.proofs.lemmas.List.Kept.{IsStrictlySortedBy-dedup}
use Rattle.std.proofs.lemmas.List.Sorted.{Contains-permutation, IsPermutation-sym}
use Rattle.std.proofs.lemmas.Map.Keys.{IsDistinct-push, IsDistinct-IsPermutation}
use Rattle.std.proofs.lemmas.Map.Views.{Contains-from_any}
use Rattle.std.specs.Cmp.{IsEquivalence, IsTotalOrder, unsigned_ties}
use Rattle.std.specs.Cmp.Derive.{on_tied, then_tied, tie}
use Rattle.std.specs.List.{IsDistinct, list_any, dedup, dedup_from, refill}
use Rattle.std.specs.List.Sorted.{IsPermutation, IsSorted, IsStrictlySortedBy}
use Rattle.std.specs.Ordering.{nat_cmp, eq_by_cmp, is_eq}
use Rattle.std.specs.declared.cmp.Ordering.TheVariants.{Equal}
use Rattle.std.specs.Prelude.{Contains, nat_eq, ◌↔◌}
use Rattle.dnsv_denial.specs.proving.FirstProof.{AreRecordsOf}
use Rattle.dnsv_proof_forms.specs.records.Numbers.{number_cmp}
use Rattle.dnsv_canonical.specs.declared.number.RecordNumber.{RecordNumber}

pub number_cmp_total : IsTotalOrder number_cmp
number_cmp_total = then_total (on_total (λ (n : RecordNumber). n.rrset) nat_cmp_total) (on_total (λ (n : RecordNumber). n.place) nat_cmp_total)

abbrev pub number_eq : RecordNumber → RecordNumber → Bool
number_eq a b = nat_eq a.rrset b.rrset && nat_eq a.place b.place

pub same_number : (a b : RecordNumber) → number_eq a b ≡ true → a ≡ b
same_number a b same =
    let parts = and_parts _ _ same in
    let rrset : a.rrset ≡ b.rrset = eqb-true _ _ parts.0 in
    let place : a.place ≡ b.place = eqb-true _ _ parts.1 in
    λ i. record { rrset = rrset i; place = place i }

pub number_eq_ties : (a b : RecordNumber) → number_eq a b ≡ eq_by_cmp number_cmp a b
number_eq_ties = (then_tied (on_tied (λ (n : RecordNumber). n.rrset) (tie nat_cmp unsigned_ties)) (on_tied (λ (n : RecordNumber). n.place) (tie nat_cmp unsigned_ties))).ties

pub number_cmp_exact : (a b : RecordNumber) → number_cmp a b ≡ Equal → a ≡ b
number_cmp_exact a b tied = same_number a b (number_eq_ties a b ∙ ap is_eq tied)

pub number_eq_equiv : IsEquivalence number_eq
number_eq_equiv = record {
  refl = λ a. and_from _ _ (nat_eq_equiv.refl a.rrset) (nat_eq_equiv.refl a.place);
  symm = λ a b. ap (λ c. c && nat_eq a.place b.place) (nat_eq_equiv.symm a.rrset b.rrset) ∙ ap (λ c. nat_eq b.rrset a.rrset && c) (nat_eq_equiv.symm a.place b.place);
  congr = λ a b c same. ap (λ n. number_eq n c) (same_number a b same);
}

-- the numbers are these, each once
pub record AreDistinctOf (given numbers : List RecordNumber) : Type 0 where
  pub distinct : IsDistinct number_eq numbers
  pub members : (n : RecordNumber) → Contains numbers n ↔ Contains given n

pub no_numbers : AreDistinctOf [] []
unfolding IsDistinct
no_numbers = record { distinct = tt; members = λ n. (λ is. is, λ is. is) }

module _ (places : List ℕ) (at : ℕ → RecordNumber) (i p : ℕ) (numbers : List RecordNumber) (next : take (i + 1) places ≡ take i places ++ p ∷ []) (so_far : AreDistinctOf (map at (take i places)) numbers) where
  given_next : map at (take (i + 1) places) ≡ map at (take i places) ++ at p ∷ []
  given_next = ap (map at) next ∙ map-append at (take i places) (p ∷ [])

  pub one_more : list_any (λ y. number_eq y (at p)) numbers ≡ false → AreDistinctOf (map at (take (i + 1) places)) (numbers ++ at p ∷ [])
  one_more none = record {
    distinct = IsDistinct-push number_eq_equiv numbers (at p) so_far.distinct (ap (λ f. list_any f numbers) (λ j y. number_eq_equiv.symm (at p) y j) ∙ none);
    members = λ n. (
      λ found. subst (λ xs. Contains xs n) (sym given_next) (⊎_elim
          (λ (front : Contains numbers n). Contains-append_left (map at (take i places)) (at p ∷ []) n ((so_far.members n).0 front))
          (λ (last : Contains (at p ∷ []) n). Contains-append_right (map at (take i places)) (at p ∷ []) n last)
          (Contains-append_cases numbers (at p ∷ []) n found)),
      λ found. ⊎_elim
          (λ (front : Contains (map at (take i places)) n). Contains-append_left numbers (at p ∷ []) n ((so_far.members n).1 front))
          (λ (last : Contains (at p ∷ []) n). Contains-append_right numbers (at p ∷ []) n last)
          (Contains-append_cases (map at (take i places)) (at p ∷ []) n (subst (λ xs. Contains xs n) given_next found)),
    );
  }

  pub known_already : list_any (λ y. number_eq y (at p)) numbers ≡ true → AreDistinctOf (map at (take (i + 1) places)) numbers
  known_already known = record {
    distinct = so_far.distinct;
    members = λ n. (
      λ found. subst (λ xs. Contains xs n) (sym given_next) (Contains-append_left (map at (take i places)) (at p ∷ []) n ((so_far.members n).0 found)),
      λ found. ⊎_elim
          (λ (front : Contains (map at (take i places)) n). (so_far.members n).1 front)
          (λ (last : at p ≡ n). subst (Contains numbers) last
          (Contains-from_any {eq = λ x y. number_eq y x} (λ x y same. sym (same_number y x same)) (at p) numbers known))
          (Contains-push_cases (map at (take i places)) (at p) n (subst (λ xs. Contains xs n) given_next found)),
    );
  }

-- nothing goes where all differ
kept_all : (x : RecordNumber) (xs : List RecordNumber) → IsDistinct number_eq (x ∷ xs) → dedup_from number_eq x xs ≡ x ∷ xs
unfolding IsDistinct
kept_all x [] distinct = refl
kept_all x (y ∷ ys) distinct = rw (number_eq_equiv.symm y x ∙ distinct.0.0) (ap (λ rest. x ∷ rest) (kept_all y ys distinct.1))

all_kept : (xs : List RecordNumber) → IsDistinct number_eq xs → dedup number_eq xs ≡ xs
all_kept [] distinct = refl
all_kept (x ∷ xs) distinct = kept_all x xs distinct

-- what is written over a list of the same length
refilled : (old new : List RecordNumber) → length new ≡ length old → refill (length old) old new ≡ new
refilled old new same = ap (λ n. take n (new ++ drop (length new) old)) (sym same) ∙ take-append_seam new (drop (length new) old)

pub in_order : (given numbers sorted : List RecordNumber) → AreDistinctOf given numbers → IsPermutation numbers sorted → length sorted ≡ length numbers → IsSorted number_cmp sorted → AreRecordsOf given (refill (length numbers) numbers sorted)
in_order given numbers sorted are moved same ordered = subst (AreRecordsOf given) (sym (refilled numbers sorted same)) (record {
  rising = subst (IsStrictlySortedBy number_cmp) (all_kept sorted (IsDistinct-IsPermutation number_eq number_eq_equiv.symm numbers sorted moved are.distinct))
      (IsStrictlySortedBy-dedup number_cmp_total number_eq_ties sorted ordered);
  members = λ n. (
    λ found. (are.members n).0 (Contains-permutation sorted numbers n (IsPermutation-sym numbers sorted moved) found),
    λ found. Contains-permutation numbers sorted n moved ((are.members n).1 found),
  );
})
