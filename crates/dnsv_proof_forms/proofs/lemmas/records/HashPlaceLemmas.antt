-- How an index of NSEC3 records by hash is built.
use Rattle.dnsv_proof_forms.proofs.lemmas.records.HashIndexLemmas.{lt_is, not_le_is}
use Rattle.dnsv_proof_forms.specs.records.HashIndex.{IsListed, IsPlaceOf, ArePlacesOf, AreReachesOf, AreWrapping}
use Rattle.dnsv_proof_forms.specs.declared.records.entry.Nsec3Entry.{Nsec3Entry}
use Rattle.dnsv_proof_forms.specs.declared.records.hash_places.HashPlace.{HashPlace}
use Rattle.dnsv_names.specs.Octets.{octets_cmp}
use Rattle.std.proofs.Common.{◌≡◌, ◌≢◌, ℕ, ◌+◌, ◌-◌, ◌<◌, ◌≤◌, true, false, List, [], ◌∷◌, ◌++◌, Some, length, get_or, refl, sym, ap, ◌∙◌, subst, ⊎_elim, arith}
use Rattle.std.proofs.lemmas.Bool.{cases_lt}
use Rattle.std.proofs.lemmas.Cmp.{nat_list_cmp_total, tied_itself}
use Rattle.std.proofs.lemmas.List.Elements.{Contains-push, Contains-push_cases}
use Rattle.std.proofs.lemmas.List.Kept.{IsSortedBy-push}
use Rattle.std.proofs.lemmas.List.Sorted.{Contains-permutation, IsPermutation-sym}
use Rattle.std.proofs.lemmas.List.{get_or_append_left, get_or_push, length_push}
use Rattle.std.proofs.lemmas.Option.{slice_get-get_or, slice_get_within, get_or_from_slice_get}
use Rattle.std.specs.List.Sorted.{IsPermutation, IsSortedByKey}
use Rattle.std.specs.List.{Contains}
use Rattle.std.specs.Ordering.{is_le, is_lt, ordering_reverse}
use Rattle.std.specs.Prelude.{slice_get}
use Rattle.std.specs.declared.cmp.Ordering.TheVariants.{Less, Greater}
use Rattle.std.specs.declared.cmp.Ordering.{Ordering}

pub itself_not_less : (a : List ℕ) → octets_cmp a a ≢ Less
itself_not_less a = λ less. let itself = tied_itself nat_list_cmp_total a in cc

pub behind_not_less : (a b : List ℕ) → octets_cmp a b ≡ Less → octets_cmp b a ≢ Less
behind_not_less a b before = λ less. let back : octets_cmp b a ≡ Greater = nat_list_cmp_total.antisymm b a ∙ ap ordering_reverse before in cc

not_less_is : (o : Ordering) → o ≢ Less → is_lt o ≡ false
not_less_is Less far = absurd (far refl)
not_less_is o far = refl

contains_more : (places : List HashPlace) (more item : HashPlace) → Contains places item → Contains (places ++ more ∷ []) item
contains_more places more item (k, within, at) =
    (k, omega (arith, within, length_push places more), get_or_append_left places (more ∷ []) item k within ∙ at)

slice_get_left : (xs : List (List ℕ)) (x : List ℕ) (k : ℕ) → k < length xs → slice_get (xs ++ x ∷ []) k ≡ slice_get xs k
slice_get_left xs x k within =
    slice_get-get_or (xs ++ x ∷ []) k x (omega (arith, within, length_push xs x)) ∙ ap Some (get_or_append_left xs (x ∷ []) x k within) ∙ sym (slice_get-get_or xs k x within)

pub lt_tells : (a b : List ℕ) → is_lt (octets_cmp a b) ≡ true → octets_cmp a b ≡ Less
lt_tells a b = lt_is (octets_cmp a b)

pub ends_behind : (next hash : List ℕ) → is_le (octets_cmp next hash) ≡ false → octets_cmp hash next ≡ Less
ends_behind next hash no_le =
    nat_list_cmp_total.antisymm hash next ∙ ap ordering_reverse (not_le_is (octets_cmp next hash) no_le)

-- the places of the first n records
pub record ArePlacesTo (entries : List Nsec3Entry) (n : ℕ) (places : List HashPlace) : Type 0 where
  pub each : (item : HashPlace) → Contains places item → IsPlaceOf entries item
  pub all : (place : ℕ) → place < n → IsListed places place

pub no_places : (entries : List Nsec3Entry) → ArePlacesTo entries 0 []
no_places entries = record {
  each = λ item among. absurd (omega (arith, among.1));
  all = λ place before. absurd (omega (arith, before));
}

pub place_more : (entries : List Nsec3Entry) (n : ℕ) (places : List HashPlace) (entry : Nsec3Entry) (item : HashPlace)
    → slice_get entries n ≡ Some entry → item.hash ≡ entry.hash → item.next ≡ entry.next_hash → item.place ≡ n
    → ArePlacesTo entries n places → ArePlacesTo entries (n + 1) (places ++ item ∷ [])
place_more entries n places entry item there hash next at are = record {
  each = λ other among. ⊎_elim
      (λ (earlier : Contains places other). are.each other earlier)
      (λ (last : item ≡ other). subst (IsPlaceOf entries) last (record { entry = entry; there = subst (λ (k : ℕ). slice_get entries k ≡ Some entry) (sym at) there; hash = hash; next = next }))
      (Contains-push_cases places item other among);
  all = λ place before. ⊎_elim
      (λ (early : place < n). let listed = are.all place early in record { item = listed.item; among = contains_more places item listed.item listed.among; same = listed.same })
      (λ (late : n ≤ place). record { item = item; among = Contains-push places item; same = at ∙ omega (arith, before, late) })
      (cases_lt place n);
}

pub all_places : (entries : List Nsec3Entry) (n : ℕ) (places : List HashPlace) → length entries ≤ n → ArePlacesTo entries n places
    → ArePlacesOf entries places
all_places entries n places whole are = record { each = are.each; all = λ place within. are.all place (omega (arith, within, whole)) }

-- sorted they are the places still
pub places_moved : (entries : List Nsec3Entry) (places moved : List HashPlace) → IsPermutation places moved → ArePlacesOf entries places → ArePlacesOf entries moved
places_moved entries places moved moves are = record {
  each = λ item among. are.each item (Contains-permutation moved places item (IsPermutation-sym places moved moves) among);
  all = λ place within. let listed = are.all place within in
      record { item = listed.item; among = Contains-permutation places moved listed.item moves listed.among; same = listed.same };
}

-- those of the first n places that wrap
pub record AreWrappingTo (places : List HashPlace) (n : ℕ) (wrapping : List HashPlace) : Type 0 where
  pub each : (item : HashPlace) → Contains wrapping item → Contains places item
  pub all : (k : ℕ) (item : HashPlace) → k < n → slice_get places k ≡ Some item → octets_cmp item.hash item.next ≢ Less → Contains wrapping item

pub none_wrap : (places : List HashPlace) → AreWrappingTo places 0 []
none_wrap places = record {
  each = λ item among. absurd (omega (arith, among.1));
  all = λ k item before. absurd (omega (arith, before));
}

pub one_wraps : (places : List HashPlace) (n : ℕ) (wrapping : List HashPlace) (item : HashPlace) → slice_get places n ≡ Some item
    → AreWrappingTo places n wrapping → AreWrappingTo places (n + 1) (wrapping ++ item ∷ [])
one_wraps places n wrapping item there are = record {
  each = λ other among. ⊎_elim
      (λ (earlier : Contains wrapping other). are.each other earlier)
      (λ (last : item ≡ other). subst (Contains places) last (n, slice_get_within places n item there, get_or_from_slice_get places n item item there))
      (Contains-push_cases wrapping item other among);
  all = λ k other before other_there wraps. ⊎_elim
      (λ (early : k < n). contains_more wrapping item other (are.all k other early other_there wraps))
      (λ (late : n ≤ k).
      let last : k ≡ n = omega (arith, before, late) in
      let here : slice_get places n ≡ Some other = subst (λ (i : ℕ). slice_get places i ≡ Some other) last other_there in
      let same : item ≡ other = cc in
      subst (Contains (wrapping ++ item ∷ [])) same (Contains-push wrapping item))
      (cases_lt k n);
}

pub one_passed : (places : List HashPlace) (n : ℕ) (wrapping : List HashPlace) (item : HashPlace) → slice_get places n ≡ Some item
    → octets_cmp item.hash item.next ≡ Less → AreWrappingTo places n wrapping → AreWrappingTo places (n + 1) wrapping
one_passed places n wrapping item there ends are = record {
  each = are.each;
  all = λ k other before other_there wraps. ⊎_elim
      (λ (early : k < n). are.all k other early other_there wraps)
      (λ (late : n ≤ k).
      let last : k ≡ n = omega (arith, before, late) in
      let here : slice_get places n ≡ Some other = subst (λ (i : ℕ). slice_get places i ≡ Some other) last other_there in
      let same : item ≡ other = cc in
      absurd (subst (λ (each : HashPlace). octets_cmp each.hash each.next ≢ Less) (sym same) wraps ends))
      (cases_lt k n);
}

pub all_wrap : (places : List HashPlace) (n : ℕ) (wrapping : List HashPlace) → length places ≤ n → AreWrappingTo places n wrapping
    → AreWrapping places wrapping
all_wrap places n wrapping whole are = record {
  each = are.each;
  all = λ item (k, within, at) wraps. are.all k item (omega (arith, within, whole)) (slice_get-get_or places k item within ∙ ap Some at) wraps;
}

-- the greatest next of the first places up to each, and of all the first n
pub record AreReachesTo (places : List HashPlace) (n : ℕ) (reach : List ℕ) (reaches : List (List ℕ)) : Type 0 where
  pub count : length reaches ≡ n
  pub sorted : IsSortedByKey (λ each. each) octets_cmp reaches
  pub last : (d : List ℕ) → 0 < length reaches → get_or reaches (length reaches - 1) d ≡ reach
  pub each : (k : ℕ) (item : HashPlace) (far : List ℕ) → slice_get places k ≡ Some item → slice_get reaches k ≡ Some far
      → octets_cmp far item.next ≢ Less

pub no_reaches : (places : List HashPlace) (reach : List ℕ) → AreReachesTo places 0 reach []
no_reaches places reach = record {
  count = refl;
  sorted = λ k d from below. absurd (omega (arith, below));
  last = λ d some. absurd (omega (arith, some));
  each = λ k item far there far_there. absurd (omega (arith, slice_get_within [] k far far_there));
}

pub reach_more : (places : List HashPlace) (n : ℕ) (reach : List ℕ) (reaches : List (List ℕ)) (item : HashPlace) (next : List ℕ)
    → slice_get places n ≡ Some item → octets_cmp next reach ≢ Less → octets_cmp next item.next ≢ Less
    → AreReachesTo places n reach reaches → AreReachesTo places (n + 1) next (reaches ++ next ∷ [])
reach_more places n reach reaches item next there farther far are = record {
  count = length_push reaches next ∙ ap (λ (k : ℕ). k + 1) are.count;
  sorted = IsSortedBy-push (λ x y. is_lt (octets_cmp x y)) reaches next are.sorted
      (λ d some. rw (are.last d some) (not_less_is (octets_cmp next reach) farther));
  last = λ d some. get_or_push reaches next d (length (reaches ++ next ∷ []) - 1) (omega (arith, length_push reaches next));
  each = λ k other reached other_there reached_there. ⊎_elim
      (λ (early : k < n). are.each k other reached other_there (sym (slice_get_left reaches next k (omega (arith, early, are.count))) ∙ reached_there))
      (λ (late : n ≤ k).
      let within : k < length (reaches ++ next ∷ []) = slice_get_within (reaches ++ next ∷ []) k reached reached_there in
      let last : k ≡ n = omega (arith, late, within, length_push reaches next, are.count) in
      let here : slice_get places n ≡ Some other = subst (λ (i : ℕ). slice_get places i ≡ Some other) last other_there in
      let same : other ≡ item = cc in
      let reached_is : reached ≡ next = sym (get_or_from_slice_get (reaches ++ next ∷ []) k reached next reached_there) ∙ get_or_push reaches next next k (are.count ∙ sym last) in
      rw (reached_is, same) far)
      (cases_lt k n);
}

pub all_reaches : (places : List HashPlace) (n : ℕ) (reach : List ℕ) (reaches : List (List ℕ)) → n ≡ length places
    → AreReachesTo places n reach reaches → AreReachesOf places reaches
all_reaches places n reach reaches whole are = record { count = are.count ∙ whole; sorted = are.sorted; each = are.each }
