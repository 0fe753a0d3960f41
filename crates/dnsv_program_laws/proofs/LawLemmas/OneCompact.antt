-- Entries have one compact list.
use Rattle.std.proofs.Common.{◌≡◌, ◌≤◌, ◌-◌, ◌∙◌, ℕ, zero, suc, Bool, true, false, List, [], ◌∷◌, ◌++◌, Some, map, slice_get, refl, sym, ap, subst, arith, inl, inr}
use Rattle.std.proofs.lemmas.Cmp.{eq_by_cmp_equiv}
use Rattle.std.proofs.lemmas.Map.Keys.{IsDistinct-from_sorted}
use Rattle.std.specs.List.{AllByRecursion, IsDistinct}
use Rattle.std.specs.List.Sorted.{IsStrictlySortedBy}
use Rattle.std.specs.Ordering.{eq_by_cmp}
use Rattle.dnsv_records.specs.declared.rrsig.Rrsig.{Rrsig}
use Rattle.dnsv_canonical.proofs.CanonicalLemmas.{Contains-from_member, IsMember-from_contains, canonical_unique, rising_unique}
use Rattle.dnsv_canonical.specs.CanonicalRdata.{canonical_form}
use Rattle.dnsv_canonical.specs.Rrsets.{IsNumbered, ReceivedRrset}
use Rattle.dnsv_verifier.specs.declared.entry.Entry.{Entry}
use Rattle.dnsv_compact.proofs.KeyLemmas.{key_Equal, key_cmp_total}
use Rattle.dnsv_compact.specs.CompactList.{AreInPlaces, AreKeysOf, ComesFirst, IsCompactList, IsListedIf, IsListedRrset, IsPlaceOf, IsRrsetListedIf, ListContents, ListedRrset, ListedSignature, ListsRrsets, ListsSignatures, key_cmp, key_of_entry, listed_signature, names_rrset, names_signature}
use Rattle.dnsv_compact.specs.declared.key.ListedKey.{ListedKey}
use Rattle.dnsv_compact.specs.declared.place.Place.{Place}
use Rattle.dnsv_program_laws.specs.Layers.{LayerLaws}

-- ---- keys

one_keys : (entries : List Entry) (a b : List ListedKey) → AreKeysOf entries a → AreKeysOf entries b → a ≡ b
one_keys entries a b x y =
    rising_unique key_cmp key_cmp_total key_Equal a b x.rising y.rising
    (λ key m. IsMember-from_contains b key ((y.members key).1 ((x.members key).0 (Contains-from_member a key m))))
    (λ key m. IsMember-from_contains a key ((x.members key).1 ((y.members key).0 (Contains-from_member b key m))))

-- what holds of each holds at each place
at_place : {X : Type 0} (P : X → Type 0) (xs : List X) (i : ℕ) (x : X) → AllByRecursion P xs → slice_get xs i ≡ Some x → P x
at_place P [] i x each at = cc
at_place P (y ∷ xs) zero x each at = let same : y ≡ x = cc in subst P same each.0
at_place P (y ∷ xs) (suc i) x each at = at_place P xs i x each.1 at

never_apart : (a b : ListedKey) → a ≡ b → eq_by_cmp key_cmp a b ≡ false → ⊥
never_apart a b same apart =
    let reflexive : eq_by_cmp key_cmp a a ≡ true = (eq_by_cmp_equiv key_cmp_total).refl a in
    let also : eq_by_cmp key_cmp a a ≡ false = subst (λ (key : ListedKey). eq_by_cmp key_cmp a key ≡ false) (sym same) apart in cc

-- a key has one place among keys that rise
one_place_of : (keys : List ListedKey) → IsDistinct (eq_by_cmp key_cmp) keys → (i j : ℕ) (key : ListedKey) → slice_get keys i ≡ Some key → slice_get keys j ≡ Some key → i ≡ j
unfolding IsDistinct
one_place_of [] apart i j key x y = cc
one_place_of (k ∷ keys) apart zero zero key x y = refl
one_place_of (k ∷ keys) apart zero (suc j) key x y =
    let same : k ≡ key = cc in absurd (never_apart k key same (at_place (λ (other : ListedKey). eq_by_cmp key_cmp k other ≡ false) keys j key apart.0 y))
one_place_of (k ∷ keys) apart (suc i) zero key x y =
    let same : k ≡ key = cc in absurd (never_apart k key same (at_place (λ (other : ListedKey). eq_by_cmp key_cmp k other ≡ false) keys i key apart.0 x))
one_place_of (k ∷ keys) apart (suc i) (suc j) key x y = ap (λ (n : ℕ). suc n) (one_place_of keys apart.1 i j key x y)

number_again : (m n : ℕ) → 1 ≤ m → 1 ≤ n → (m - 1) ≡ (n - 1) → m ≡ n
number_again m n x y same = omega (arith, x, y, same)

one_number : (keys : List ListedKey) → IsStrictlySortedBy key_cmp keys → (m n : ℕ) (key : ListedKey) → IsNumbered keys m key → IsNumbered keys n key → m ≡ n
one_number keys rising m n key x y =
    number_again m n x.0 y.0 (one_place_of keys (IsDistinct-from_sorted key_cmp keys rising) (m - 1) (n - 1) key x.1 y.1)

-- ---- places

same_first : (r s q t : ℕ) → ComesFirst r s q t → ComesFirst q t r s → (r ≡ q) × (s ≡ t)
same_first r s q t (inl x) (inl y) = absurd (omega (arith, x, y))
same_first r s q t (inl x) (inr y) = let same = y.0 in absurd (omega (arith, x, same))
same_first r s q t (inr x) (inl y) = let same = x.0 in absurd (omega (arith, y, same))
same_first r s q t (inr x) (inr y) = let up = x.1 in let down = y.1 in (x.0, omega (arith, up, down))

one_place : (from to : ℕ) (rrsets : List ReceivedRrset) (keys : List ListedKey) → IsStrictlySortedBy key_cmp keys → (entry : Entry) (a b : Place)
    → IsPlaceOf from to rrsets keys entry a → IsPlaceOf from to rrsets keys entry b → a ≡ b
one_place from to rrsets keys rising entry a b x y =
    let number = one_number keys rising a.key b.key (key_of_entry entry) x.key y.key in
    let first = same_first a.rrset a.signature b.rrset b.signature (x.signature.lowest b.rrset b.signature y.signature.gives) (y.signature.lowest a.rrset a.signature x.signature.gives) in
    λ i. record { key = number i; rrset = first.0 i; signature = first.1 i }

one_list_of_places : (from to : ℕ) (rrsets : List ReceivedRrset) (keys : List ListedKey) → IsStrictlySortedBy key_cmp keys → (entries : List Entry) (a b : List Place)
    → AreInPlaces from to rrsets keys entries a → AreInPlaces from to rrsets keys entries b → a ≡ b
one_list_of_places from to rrsets keys rising [] [] [] x y = refl
one_list_of_places from to rrsets keys rising [] [] (q ∷ b) x y = absurd y
one_list_of_places from to rrsets keys rising [] (p ∷ a) b x y = absurd x
one_list_of_places from to rrsets keys rising (entry ∷ entries) [] b x y = absurd x
one_list_of_places from to rrsets keys rising (entry ∷ entries) (p ∷ a) [] x y = absurd y
one_list_of_places from to rrsets keys rising (entry ∷ entries) (p ∷ a) (q ∷ b) x y =
    let first = one_place from to rrsets keys rising entry p q x.0 y.0 in
    let rest = one_list_of_places from to rrsets keys rising entries a b x.1 y.1 in
    λ i. first i ∷ rest i

module _ (laws : LayerLaws) where
  -- ---- RRsets

  listed_if : (named : Bool) (number : ℕ) (rrsig other : Rrsig) (a b : List ListedSignature) → rrsig ≡ other → IsListedIf named number rrsig a → IsListedIf named number other b → a ≡ b
  listed_if true number rrsig other a b same x y = x ∙ ap (λ (each : Rrsig). listed_signature number each ∷ []) same ∙ sym y
  listed_if false number rrsig other a b same x y = x ∙ sym y

  one_list_of_signatures : (todo : List Place) (rrset number : ℕ) (signatures : List (List ℕ)) (a b : List ListedSignature)
      → ListsSignatures todo rrset number signatures a → ListsSignatures todo rrset number signatures b → a ≡ b
  one_list_of_signatures todo rrset number [] a b x y = x ∙ sym y
  one_list_of_signatures todo rrset number (rdata ∷ others) a b x y =
      let first = listed_if (names_signature todo rrset number) number x.0 y.0 x.1 y.1 (laws.evidence.one_rrsig rdata x.0 y.0 x.3 y.3) x.4 y.4 in
      let rest = one_list_of_signatures todo rrset (suc number) others x.2 y.2 x.5 y.5 in
      x.6 ∙ (λ i. first i ++ rest i) ∙ sym y.6

  one_listed_rrset : (todo : List Place) (number : ℕ) (received : ReceivedRrset) (a b : ListedRrset)
      → IsListedRrset todo number received a → IsListedRrset todo number received b → a ≡ b
  one_listed_rrset todo number received a b x y =
      let numbers = x.is_number ∙ sym y.is_number in
      let owners = x.owner ∙ sym y.owner in
      let types = x.rtype ∙ sym y.rtype in
      let rdata = canonical_unique (map (canonical_form received.rtype) received.rdata) a.rdata b.rdata x.rdata y.rdata in
      let signatures = one_list_of_signatures todo number 1 received.signatures a.signatures b.signatures x.signatures y.signatures in
      λ i. record { number = numbers i; owner = owners i; rtype = types i; rdata = rdata i; signatures = signatures i }

  rrset_listed_if : (named : Bool) (todo : List Place) (number : ℕ) (received : ReceivedRrset) (a b : List ListedRrset)
      → IsRrsetListedIf named todo number received a → IsRrsetListedIf named todo number received b → a ≡ b
  rrset_listed_if true todo number received a b x y =
      x.2 ∙ ap (λ (each : ListedRrset). each ∷ []) (one_listed_rrset todo number received x.0 y.0 x.1 y.1) ∙ sym y.2
  rrset_listed_if false todo number received a b x y = x ∙ sym y

  one_list_of_rrsets : (todo : List Place) (number : ℕ) (rrsets : List ReceivedRrset) (a b : List ListedRrset)
      → ListsRrsets todo number rrsets a → ListsRrsets todo number rrsets b → a ≡ b
  one_list_of_rrsets todo number [] a b x y = x ∙ sym y
  one_list_of_rrsets todo number (received ∷ others) a b x y =
      let first = rrset_listed_if (names_rrset todo number) todo number received x.0 y.0 x.2 y.2 in
      let rest = one_list_of_rrsets todo (suc number) others x.1 y.1 x.3 y.3 in
      x.4 ∙ (λ i. first i ++ rest i) ∙ sym y.4

  -- ---- the list

  pub one_compact_list : (from to : ℕ) (rrsets : List ReceivedRrset) (entries : List Entry) (a b : ListContents)
      → IsCompactList from to rrsets entries a → IsCompactList from to rrsets entries b → a ≡ b
  one_compact_list from to rrsets entries a b x y =
      let keys = one_keys entries a.keys b.keys x.places.keys y.places.keys in
      let todo = one_list_of_places from to rrsets b.keys y.places.keys.rising entries a.todo b.todo
      (subst (λ (each : List ListedKey). AreInPlaces from to rrsets each entries a.todo) keys x.places.each) y.places.each in
      let listed = one_list_of_rrsets b.todo 1 rrsets a.rrsets b.rrsets
      (subst (λ (each : List Place). ListsRrsets each 1 rrsets a.rrsets) todo x.listed) y.listed in
      λ i. record { keys = keys i; rrsets = listed i; todo = todo i }
