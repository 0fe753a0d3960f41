-- Looking by halves, in a list whose keys rise.
use Rattle.std.proofs.Common.{◌≡◌, ℕ, ◌+◌, ◌<◌, false, ⊎_elim, List, [], ◌∷◌, length, get_or, Option, Some, None, map, refl, sym, ap, ◌∙◌, subst, arith}
use Rattle.std.proofs.lemmas.Bool.{cases_lt}
use Rattle.std.proofs.lemmas.Cmp.{eq_by_cmp_equiv, tied_itself}
use Rattle.std.proofs.lemmas.List.{get_or-map, length-map}
use Rattle.std.proofs.lemmas.List.Elements.{Contains-get_or}
use Rattle.std.proofs.lemmas.List.Sorted.{searchable_from_sorted}
use Rattle.std.proofs.lemmas.Map.Keys.{IsDistinct-from_sorted, Less-from_sorted}
use Rattle.std.proofs.lemmas.Map.Views.{lookup-from_Contains, Contains-from_lookup}
use Rattle.std.specs.Cmp.{IsTotalOrder}
use Rattle.std.specs.List.{Contains, HoldsAt}
use Rattle.std.specs.List.Sorted.{IsNonDecreasingBy, IsPartitionPoint, IsSortedBy, IsStrictlySortedBy}
use Rattle.std.specs.Map.{lookup}
use Rattle.std.specs.Ordering.{is_eq, is_lt, ordering_index, ordering_reverse}
use Rattle.std.specs.declared.cmp.Ordering.{Ordering}
use Rattle.std.specs.declared.cmp.Ordering.TheVariants.{Less, Equal, Greater}
use Rattle.dnsv_verifier.proofs.NumberLemmas.{contains_from_map, contains_map}
use Rattle.dnsv_verifier.proofs.TableLemmas.{is_eq-Equal}

-- the keys of a list that is made of items
keys_listed : {Y K X : Type 0} (key : Y → K) (value : Y → X) (items : List Y) → map (λ (each : K × X). each.0) (map (λ y. (key y, value y)) items) ≡ map key items
keys_listed key value [] = refl
keys_listed key value (y ∷ items) = ap (λ rest. key y ∷ rest) (keys_listed key value items)

-- looking by halves among what rises
module _ {Y K : Type 0} (cmp : K → K → Ordering) (total : IsTotalOrder cmp) (value : Y → K) (items : List Y) (rising : IsStrictlySortedBy cmp (map value items)) (asked : K) where
  less_next : (k : ℕ) (d : Y) → k + 1 < length items → cmp (value (get_or items k d)) (value (get_or items (k + 1) d)) ≡ Less
  less_next k d within =
      let count = length-map items value in
      let here = get_or-map value items k d (value d) (omega (arith, within)) in
      let next = get_or-map value items (k + 1) d (value d) within in
      rw (← here, ← next) (Less-from_sorted cmp (map value items) k (k + 1) (value d) rising (omega arith) (rw count within))

  not_less : (a b : K) → cmp a b ≡ Less → is_lt (cmp b a) ≡ false
  not_less a b less = ap is_lt (total.antisymm b a ∙ ap ordering_reverse less)

  sorted : IsSortedBy (λ a b. is_lt (cmp (value a) (value b))) items
  sorted k d low within = not_less (value (get_or items k d)) (value (get_or items (k + 1) d)) (less_next k d within)

  -- what is listed is not missed
  pub not_missed : Contains (map value items) asked → (place : ℕ)
      → (IsNonDecreasingBy (λ y. ordering_index (cmp (value y) asked)) items
      → IsPartitionPoint (λ y. cmp (value y) asked ≡ Less) (λ y. cmp (value y) asked ≡ Greater) items place) → ⊥
  not_missed listed place parted =
      let from = contains_from_map value items asked listed in
      let y = from.0 in
      let k = from.1.0 in
      let tied : cmp (value (get_or items k y)) asked ≡ Equal =
      ap (λ z. cmp (value z) asked) from.1.2 ∙ ap (λ v. cmp v asked) from.2 ∙ tied_itself total asked in
      let point = parted (searchable_from_sorted total value items asked sorted) in
      ⊎_elim
      (λ before. let less : cmp (value (get_or items k y)) asked ≡ Less = point.0 k y (omega arith) before in let clash : Less ≡ Equal = sym less ∙ tied in cc)
      (λ behind. let more : cmp (value (get_or items k y)) asked ≡ Greater = point.1 k y behind from.1.1 in let clash : Greater ≡ Equal = sym more ∙ tied in cc)
      (cases_lt k place)

module _ {Y K X : Type 0} (cmp : K → K → Ordering) (total : IsTotalOrder cmp) (exact : (a b : K) → cmp a b ≡ Equal → a ≡ b) (key : Y → K) (value : Y → X) (items : List Y) where
  module _ (rising : IsStrictlySortedBy cmp (map key items)) (asked : K) where
    -- the key at the place is the one that was looked for
    pub found_at : (place : ℕ) (item : Y) → place < length items → item ≡ get_or items place item
        → HoldsAt (λ y. cmp (key y) asked ≡ Equal) items place
        → lookup (λ each. is_eq (cmp asked each)) (map (λ y. (key y, value y)) items) ≡ Some (value item)
    found_at place item within is holds =
        let same : key item ≡ asked = exact (key item) asked (ap (λ y. cmp (key y) asked) is ∙ holds item) in
        let its : Contains items item = subst (λ y. Contains items y) (sym is) (Contains-get_or items place item within) in
        let contains : Contains (map (λ y. (key y, value y)) items) (asked, value item) =
        subst (λ (k : K). Contains {X = K × X} (map (λ y. (key y, value y)) items) (k, value item)) same (contains_map (λ y. (key y, value y)) items item its) in
        lookup-from_Contains (eq_by_cmp_equiv total) asked (value item) (map (λ y. (key y, value y)) items)
        (IsDistinct-from_sorted cmp (map (λ each. each.0) (map (λ y. (key y, value y)) items)) (subst (IsStrictlySortedBy cmp) (sym (keys_listed key value items)) rising)) contains

  module _ (asked : K) (missing : Contains (map key items) asked → ⊥) where
    found_none : (found : Option X) → lookup (λ each. is_eq (cmp asked each)) (map (λ y. (key y, value y)) items) ≡ found → found ≡ None
    found_none None e = refl
    found_none (Some x) e =
        let from = contains_from_map (λ y. (key y, value y)) items (asked, x) (Contains-from_lookup (λ a b tied. exact a b (is_eq-Equal (cmp a b) tied)) asked x (map (λ y. (key y, value y)) items) e) in
        let its : key from.0 ≡ asked = ap (λ (each : K × X). each.0) from.2 in
        absurd (missing (subst (λ (k : K). Contains (map key items) k) its (contains_map key items from.0 from.1)))

    -- nothing is listed for what no item has
    pub not_listed : lookup (λ each. is_eq (cmp asked each)) (map (λ y. (key y, value y)) items) ≡ None
    not_listed = found_none (lookup (λ each. is_eq (cmp asked each)) (map (λ y. (key y, value y)) items)) refl

  -- the key would stand at the place, and doesn't
  pub absent_from : (rising : IsStrictlySortedBy cmp (map key items)) (asked : K) (place : ℕ)
      → (IsNonDecreasingBy (λ y. ordering_index (cmp (key y) asked)) items
      → IsPartitionPoint (λ y. cmp (key y) asked ≡ Less) (λ y. cmp (key y) asked ≡ Greater) items place)
      → lookup (λ each. is_eq (cmp asked each)) (map (λ y. (key y, value y)) items) ≡ None
  absent_from rising asked place parted =
      not_listed asked (λ listed. not_missed cmp total key items rising asked listed place parted)

-- a list of pairs is made of its pairs
pub pairs_again : {K X : Type 0} (listed : List (K × X)) → map (λ (each : K × X). (each.0, each.1)) listed ≡ listed
pairs_again [] = refl
pairs_again (each ∷ listed) = ap (λ rest. each ∷ rest) (pairs_again listed)
