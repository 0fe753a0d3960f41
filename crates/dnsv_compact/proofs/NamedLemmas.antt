-- Which signatures places name, in order.
use Rattle.std.proofs.Common.{◌≡◌, ◌<◌, ◌&&◌, ◌==◌, ℕ, Bool, true, false, List, [], ◌∷◌, nat_eq, length, get_or, map, refl, sym, ap, ◌∙◌, subst, inl, inr, arith}
use Rattle.std.proofs.lemmas.Bool.Decides.{nat_tests}
use Rattle.std.proofs.lemmas.Cmp.{eq_by_cmp_equiv, nat_cmp_total, on_total, then_total}
use Rattle.std.proofs.lemmas.List.{map-id}
use Rattle.std.proofs.lemmas.List.Kept.{Contains-dedup, Contains-from_dedup, IsStrictlySortedBy-dedup}
use Rattle.std.proofs.lemmas.List.Sorted.{Contains-permutation, IsPermutation-sym}
use Rattle.std.specs.Cmp.{IsTotalOrder, both_tied, unsigned_ties}
use Rattle.std.specs.List.{Contains, HoldsAt, dedup, list_any}
use Rattle.std.specs.List.Sorted.{IsNonDecreasingBy, IsPartitionPoint, IsPermutation, IsSorted, IsStrictlySortedBy}
use Rattle.std.specs.Ordering.{eq_by_cmp, nat_cmp, ordering_index}
use Rattle.std.specs.declared.cmp.Ordering.{Ordering}
use Rattle.std.specs.declared.cmp.Ordering.TheVariants.{Less, Equal, Greater}
use Rattle.dnsv_canonical.proofs.CanonicalLemmas.{Contains-from_member, IsMember, IsMember-from_contains}
use Rattle.dnsv_verifier.specs.EntryLaws.{octet_Equal, then_Equal}
use Rattle.dnsv_verifier.proofs.NumberLemmas.{contains_from_map, contains_map}
use Rattle.dnsv_verifier.proofs.SearchLemmas.{not_missed}
use Rattle.dnsv_verifier.proofs.TableLemmas.{is_eq-Equal}
use Rattle.dnsv_compact.specs.CompactList.{names_rrset, names_signature}
use Rattle.dnsv_compact.specs.Named.{AreNamedBy, AreRrsetsOf, named_at, named_cmp}
use Rattle.dnsv_compact.specs.declared.named.Named.{Named}
use Rattle.dnsv_compact.specs.declared.place.Place.{Place}

pub named_cmp_total : IsTotalOrder named_cmp
named_cmp_total = then_total (on_total (λ (each : Named). each.rrset) nat_cmp_total) (on_total (λ (each : Named). each.signature) nat_cmp_total)

pub named_Equal : (a b : Named) → named_cmp a b ≡ Equal → a ≡ b
named_Equal a b e =
    let both = then_Equal (nat_cmp a.rrset b.rrset) (nat_cmp a.signature b.signature) e in
    λ i. record { rrset = octet_Equal a.rrset b.rrset both.0 i; signature = octet_Equal a.signature b.signature both.1 i }

named_ties : (x y : Named) → (nat_eq x.rrset y.rrset && nat_eq x.signature y.signature) ≡ eq_by_cmp named_cmp x y
named_ties x y = both_tied _ _ _ _ (unsigned_ties x.rrset y.rrset) (unsigned_ties x.signature y.signature)

-- sorted and without repeats a list has the members that it had
members_kept : {K : Type 0} (cmp : K → K → Ordering) → IsTotalOrder cmp → ((a b : K) → cmp a b ≡ Equal → a ≡ b) → (all sorted kept : List K)
    → IsPermutation all sorted → kept ≡ dedup (eq_by_cmp cmp) sorted → (k : K) → (Contains kept k → Contains all k) × (Contains all k → Contains kept k)
members_kept {K} cmp total exact all sorted kept moves is k = (
  λ found. Contains-permutation sorted all k (IsPermutation-sym all sorted moves)
      (Contains-from_dedup (eq_by_cmp cmp) sorted k (subst (λ (each : List K). Contains each k) is found)),
  λ found. subst (λ (each : List K). Contains each k) (sym is)
      (Contains-dedup (eq_by_cmp_equiv total) (λ x y tied. exact x y (is_eq-Equal (cmp x y) tied)) sorted k (Contains-permutation all sorted k moves found)),
)

pub are_named : (places : List Place) (all sorted kept : List Named) → all ≡ map named_at places → IsPermutation all sorted → IsSorted named_cmp sorted
    → kept ≡ dedup (λ x y. nat_eq x.rrset y.rrset && nat_eq x.signature y.signature) sorted → AreNamedBy places kept
are_named places all sorted kept are moves ordered is =
    let by_cmp : kept ≡ dedup (eq_by_cmp named_cmp) sorted = is ∙ (λ i. dedup (λ x y. named_ties x y i) sorted) in
    record {
      rising = subst (IsStrictlySortedBy named_cmp) (sym is) (IsStrictlySortedBy-dedup named_cmp_total named_ties sorted ordered);
      members = λ each. let same = members_kept named_cmp named_cmp_total named_Equal all sorted kept moves by_cmp each in (
        λ found. subst (λ (xs : List Named). Contains xs each) are (same.0 found),
        λ found. same.1 (subst (λ (xs : List Named). Contains xs each) (sym are) found),
      );
    }

pub are_rrsets : (places : List Place) (all sorted kept : List ℕ) → all ≡ map (λ place. place.rrset) places → IsPermutation all sorted → IsSorted nat_cmp sorted
    → kept ≡ dedup nat_eq sorted → AreRrsetsOf places kept
are_rrsets places all sorted kept are moves ordered is =
    let by_cmp : kept ≡ dedup (eq_by_cmp nat_cmp) sorted = is ∙ (λ i. dedup (λ x y. unsigned_ties x y i) sorted) in
    record {
      rising = subst (IsStrictlySortedBy nat_cmp) (sym is) (IsStrictlySortedBy-dedup nat_cmp_total unsigned_ties sorted ordered);
      members = λ each. let same = members_kept nat_cmp nat_cmp_total octet_Equal all sorted kept moves by_cmp each in (
        λ found. subst (λ (xs : List ℕ). Contains xs each) are (same.0 found),
        λ found. same.1 (subst (λ (xs : List ℕ). Contains xs each) (sym are) found),
      );
    }

-- ---- looked up by halves

module _ {K : Type 0} (cmp : K → K → Ordering) (total : IsTotalOrder cmp) (exact : (a b : K) → cmp a b ≡ Equal → a ≡ b) (all : List K) (asked : K) (place : ℕ) where
  pub found_at : place < length all → HoldsAt (λ each. cmp each asked ≡ Equal) all place → Contains all asked
  found_at within holds = (place, within, exact (get_or all place asked) asked (holds asked))

  pub missed_at : IsStrictlySortedBy cmp all
      → (IsNonDecreasingBy (λ each. ordering_index (cmp each asked)) all → IsPartitionPoint (λ each. cmp each asked ≡ Less) (λ each. cmp each asked ≡ Greater) all place)
      → Contains all asked → ⊥
  missed_at rising position there =
      not_missed cmp total (λ each. each) all (subst (IsStrictlySortedBy cmp) (sym (map-id all)) rising) asked
      (subst (λ (xs : List K). Contains xs asked) (sym (map-id all)) there) place position

-- ---- tests

any_true : (test : Place → Bool) (places : List Place) (place : Place) → IsMember place places → test place ≡ true → list_any test places ≡ true
any_true test [] place member passes = absurd member
any_true test (x ∷ places) place (inl same) passes = let here : test x ≡ true = sym (ap test same) ∙ passes in rw here refl
any_true test (x ∷ places) place (inr later) passes =
    elim (test x) as (λ b. test x ≡ b → list_any test (x ∷ places) ≡ true) [
      | true ↦ λ here. rw here refl
      | false ↦ λ here. rw here (any_true test places place later passes)
    ] refl

any_false : (test : Place → Bool) (places : List Place) → ((place : Place) → IsMember place places → test place ≡ true → ⊥) → list_any test places ≡ false
any_false test [] none = refl
any_false test (x ∷ places) none =
    elim (test x) as (λ b. test x ≡ b → list_any test (x ∷ places) ≡ false) [
      | true ↦ λ here. absurd (none x (inl refl) here)
      | false ↦ λ here. rw here (any_false test places (λ place later. none place (inr later)))
    ] refl

module _ (places : List Place) where
  pub named_true : (rrset signature : ℕ) → Contains (map named_at places) (record { rrset = rrset; signature = signature }) → true ≡ names_signature places rrset signature
  named_true rrset signature found =
      let (place, there, is) = contains_from_map named_at places (record { rrset = rrset; signature = signature }) found in
      let one : place.rrset ≡ rrset = ap (λ (n : Named). n.rrset) is in
      let two : place.signature ≡ signature = ap (λ (n : Named). n.signature) is in
      let passes : ((place.rrset == rrset) && (place.signature == signature)) ≡ true = grind (arith, nat_tests) in
      sym (any_true (λ place. (place.rrset == rrset) && (place.signature == signature)) places place (IsMember-from_contains places place there) passes)

  pub rrset_true : (rrset : ℕ) → Contains (map (λ place. place.rrset) places) rrset → true ≡ names_rrset places rrset
  rrset_true rrset found =
      let (place, there, is) = contains_from_map (λ (each : Place). each.rrset) places rrset found in
      let passes : (place.rrset == rrset) ≡ true = grind (arith, nat_tests) in
      sym (any_true (λ place. place.rrset == rrset) places place (IsMember-from_contains places place there) passes)

  pub named_false : (rrset signature : ℕ) → (Contains (map named_at places) (record { rrset = rrset; signature = signature }) → ⊥)
      → false ≡ names_signature places rrset signature
  named_false rrset signature none =
      sym (any_false (λ place. (place.rrset == rrset) && (place.signature == signature)) places (λ place member passes.
      let one : place.rrset ≡ rrset = grind (arith, nat_tests) in
      let two : place.signature ≡ signature = grind (arith, nat_tests) in
      let is : named_at place ≡ record { rrset = rrset; signature = signature } = λ i. record { rrset = one i; signature = two i } in
      none (subst (λ (n : Named). Contains (map named_at places) n) is (contains_map named_at places place (Contains-from_member places place member)))))

  pub rrset_false : (rrset : ℕ) → (Contains (map (λ place. place.rrset) places) rrset → ⊥) → false ≡ names_rrset places rrset
  rrset_false rrset none =
      sym (any_false (λ place. place.rrset == rrset) places (λ place member passes.
      let one : place.rrset ≡ rrset = grind (arith, nat_tests) in
      none (subst (λ (n : ℕ). Contains (map (λ place. place.rrset) places) n) one (contains_map (λ (each : Place). each.rrset) places place (Contains-from_member places place member)))))
