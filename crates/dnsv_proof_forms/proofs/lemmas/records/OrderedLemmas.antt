-- Parameters of NSEC3 records in their order, and the hashes with each of them.
use Rattle.std.proofs.Common.{◌≡◌, ◌↔◌, ◌&&◌, Bool, true, ℕ, ◌+◌, ◌<◌, ◌≤◌, List, [], ◌∷◌, ◌++◌, length, get_or, map, take, refl, sym, ap, ◌∙◌, subst}
use Rattle.std.proofs.lemmas.Bool.{and_from, and_parts, eqb-true}
use Rattle.std.proofs.lemmas.Cmp.{nat_eq_equiv, lists_equiv, on_total}
use Rattle.std.proofs.lemmas.List.{map-append, take_all, take_more}
use Rattle.std.proofs.lemmas.List.Kept.{IsStrictlySortedBy-dedup, Contains-dedup, Contains-from_dedup}
use Rattle.std.proofs.lemmas.List.Sorted.{Contains-permutation, IsPermutation-map, IsPermutation-sym}
use Rattle.std.specs.Cmp.{IsEquivalence, unsigned_ties}
use Rattle.std.specs.Cmp.Derive.{on_tied, then_tied, tie}
use Rattle.std.specs.Cmp.Lexicographic.{pointwise, texts_ties, bytes_decides}
use Rattle.std.specs.List.{AllByRecursion, dedup}
use Rattle.std.specs.List.Sorted.{IsPermutation, IsSorted, IsStrictlySortedBy}
use Rattle.std.specs.Ordering.{nat_cmp, eq_by_cmp}
use Rattle.std.specs.Prelude.{Contains, nat_eq}
use Rattle.dnsv_names.specs.RisingLaws.{map-dedup}
use Rattle.dnsv_names.specs.Name.{Labels}
use Rattle.dnsv_names.specs.Octets.{octets_cmp}
use Rattle.dnsv_records.specs.OctetLaws.{recursion-append}
use Rattle.dnsv_records.specs.declared.nsec3.Nsec3Parameters.{Nsec3Parameters}
use Rattle.dnsv_zones.specs.chains.Rdata.{parameters_of}
use Rattle.dnsv_canonical.proofs.CanonicalLemmas.{rising_map}
use Rattle.dnsv_proof_forms.specs.KeptHashes.{IsSetOf}
use Rattle.dnsv_proof_forms.specs.records.ParametersOrder.{parameters_cmp}
use Rattle.dnsv_proof_forms.specs.declared.records.parameters.OrderedParameters.{OrderedParameters}
use Rattle.dnsv_proof_forms.specs.declared.records.name_hashes.NameHashes.{NameHashes}
use Rattle.dnsv_proof_forms.proofs.lemmas.records.ParametersLemmas.{parameters_total}

-- ---- parameters

abbrev parameters_eq : Nsec3Parameters → Nsec3Parameters → Bool
parameters_eq a b = nat_eq a.iterations.0 b.iterations.0 && pointwise nat_eq a.salt b.salt

same_parameters : (a b : Nsec3Parameters) → parameters_eq a b ≡ true → a ≡ b
same_parameters a b same =
    let parts = and_parts _ _ same in
    let iterations : a.iterations.0 ≡ b.iterations.0 = eqb-true _ _ parts.0 in
    let salt : a.salt ≡ b.salt = (bytes_decides a.salt b.salt).0 parts.1 in
    λ i. record { iterations = record { 0 = iterations i }; salt = salt i }

parameters_equiv : IsEquivalence parameters_eq
parameters_equiv = record {
  refl = λ a. and_from _ _ (nat_eq_equiv.refl a.iterations.0) ((lists_equiv nat_eq_equiv).refl a.salt);
  symm = λ a b. ap (λ c. c && pointwise nat_eq a.salt b.salt) (nat_eq_equiv.symm a.iterations.0 b.iterations.0)
      ∙ ap (λ c. nat_eq b.iterations.0 a.iterations.0 && c) ((lists_equiv nat_eq_equiv).symm a.salt b.salt);
  congr = λ a b c same. ap (λ n. parameters_eq n c) (same_parameters a b same);
}

ties : (a b : Nsec3Parameters) → parameters_eq a b ≡ eq_by_cmp (λ x y. parameters_cmp (parameters_of x) (parameters_of y)) a b
ties = (then_tied (on_tied (λ (n : Nsec3Parameters). n.iterations.0) (tie nat_cmp unsigned_ties)) (on_tied (λ (n : Nsec3Parameters). n.salt) (tie octets_cmp texts_ties))).ties

-- what a sort and then a `dedup` leave of references to parameters
module _ (given sorted kept : List OrderedParameters) (ordered : IsSorted (λ (a b : OrderedParameters). parameters_cmp (parameters_of a.parameters.now) (parameters_of b.parameters.now)) sorted) (is : kept ≡ dedup (λ (a b : OrderedParameters). parameters_eq a.parameters.now b.parameters.now) sorted) where
  pub put_in_order : IsStrictlySortedBy parameters_cmp (map parameters_of (map (λ each. each.parameters.now) kept))
  put_in_order = rw is (rising_map parameters_of parameters_cmp _ (rising_map (λ (each : OrderedParameters). each.parameters.now) (λ a b. parameters_cmp (parameters_of a) (parameters_of b)) _
      (IsStrictlySortedBy-dedup (on_total (λ (each : OrderedParameters). parameters_of each.parameters.now) parameters_total) (λ a b. ties a.parameters.now b.parameters.now) sorted ordered)))

  pub members_in_order : IsPermutation given sorted → (x : Nsec3Parameters) → Contains (map (λ each. each.parameters.now) given) x ↔ Contains (map (λ each. each.parameters.now) kept) x
  members_in_order moved x =
      let mapped : IsPermutation (map (λ (b : OrderedParameters). b.parameters.now) given) (map (λ (b : OrderedParameters). b.parameters.now) sorted) = IsPermutation-map (λ b. b.parameters.now) given sorted moved in
      let whole : map (λ (b : OrderedParameters). b.parameters.now) kept ≡ dedup parameters_eq (map (λ b. b.parameters.now) sorted) = ap (map (λ b. b.parameters.now)) is ∙ map-dedup (λ (b : OrderedParameters). b.parameters.now) parameters_eq sorted in (
        λ found. rw whole (Contains-dedup parameters_equiv same_parameters (map (λ b. b.parameters.now) sorted) x
            (Contains-permutation (map (λ b. b.parameters.now) given) (map (λ b. b.parameters.now) sorted) x mapped found)),
        λ found. Contains-permutation (map (λ b. b.parameters.now) sorted) (map (λ b. b.parameters.now) given) x
            (IsPermutation-sym (map (λ (b : OrderedParameters). b.parameters.now) given) (map (λ b. b.parameters.now) sorted) mapped)
            (Contains-from_dedup parameters_eq (map (λ b. b.parameters.now) sorted) x (subst (λ xs. Contains xs x) whole found)),
      )

-- ---- sets

-- the sets of the parameters so far
pub record AreSetsTo (name : Labels) (ordered : List OrderedParameters) (i : ℕ) (sets : List NameHashes) : Type 0 where
  pub same : map (λ set. set.parameters.now) sets ≡ map (λ each. each.parameters.now) (take i ordered)
  pub hashed : AllByRecursion (IsSetOf name) sets

pub no_sets : (name : Labels) (ordered : List OrderedParameters) → AreSetsTo name ordered 0 []
no_sets name ordered = record { same = refl; hashed = tt }

pub set_more : (name : Labels) (ordered : List OrderedParameters) (i : ℕ) (sets : List NameHashes) (set : NameHashes) (each : OrderedParameters)
    → i < length ordered → each ≡ get_or ordered i each → set.parameters.now ≡ each.parameters.now → IsSetOf name set → AreSetsTo name ordered i sets
    → AreSetsTo name ordered (i + 1) (sets ++ set ∷ [])
set_more name ordered i sets set each within is its of so_far =
    let next : take (i + 1) ordered ≡ take i ordered ++ each ∷ [] = take_more ordered i each within ∙ ap (λ e. take i ordered ++ e ∷ []) (sym is) in
    record {
      same = map-append (λ (s : NameHashes). s.parameters.now) sets (set ∷ [])
          ∙ ap (λ front. front ++ set.parameters.now ∷ []) so_far.same ∙ ap (λ e. map (λ (b : OrderedParameters). b.parameters.now) (take i ordered) ++ e ∷ []) its
          ∙ sym (map-append (λ (b : OrderedParameters). b.parameters.now) (take i ordered) (each ∷ []))
          ∙ sym (ap (map (λ (b : OrderedParameters). b.parameters.now)) next);
      hashed = recursion-append (IsSetOf name) sets (set ∷ []) so_far.hashed (of, tt);
    }

pub all_sets : (name : Labels) (ordered : List OrderedParameters) (i : ℕ) (sets : List NameHashes) → length ordered ≤ i → AreSetsTo name ordered i sets
    → map (λ set. set.parameters.now) sets ≡ map (λ each. each.parameters.now) ordered
all_sets name ordered i sets whole so_far = so_far.same ∙ ap (map (λ (b : OrderedParameters). b.parameters.now)) (take_all i ordered whole)
