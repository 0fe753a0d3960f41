-- An index of NSEC3 records by hash leaves out none that can speak of a hash.
use Rattle.dnsv_zones.specs.chains.Nsec3Chain.{Parameters}
use Rattle.dnsv_proof_forms.specs.records.HashIndex.{IsListed, AreWithin, IsIndexOf}
use Rattle.dnsv_proof_forms.specs.records.HashWords.{HasHash, CoversHash}
use Rattle.dnsv_proof_forms.specs.records.Record.{read_nsec3}
use Rattle.dnsv_proof_forms.specs.words.SaidAt.{IsSaidAt}
use Rattle.dnsv_proof_forms.specs.declared.records.entry.Nsec3Entry.{Nsec3Entry}
use Rattle.dnsv_proof_forms.specs.declared.records.hash_places.HashPlace.{HashPlace}
use Rattle.dnsv_names.specs.RisingLaws.{le_before, lt_before}
use Rattle.dnsv_names.specs.Circle.{between}
use Rattle.dnsv_names.specs.Octets.{octets_cmp}
use Rattle.std.proofs.Common.{◌≡◌, ◌≢◌, ◌⊎◌, ℕ, ◌+◌, ◌-◌, ◌<◌, ◌≤◌, true, false, List, [], Some, length, get_or, take, drop, refl, sym, ap, ◌∙◌, subst, inl, inr, ⊎_elim, arith}
use Rattle.std.proofs.lemmas.Bool.{cases_lt}
use Rattle.std.proofs.lemmas.Cmp.{nat_list_cmp_total, tied_itself}
use Rattle.std.proofs.lemmas.List.Sorted.{searchable_from_sorted}
use Rattle.std.proofs.lemmas.List.{get_or-drop, get_or-take, length-drop, length-take}
use Rattle.std.proofs.lemmas.Option.{slice_get-get_or, slice_get_within}
use Rattle.std.specs.List.Sorted.{IsNonDecreasingBy, IsPartitionedBy, IsPartitionPoint, IsSortedByKey}
use Rattle.std.specs.List.{Contains}
use Rattle.std.specs.Ordering.{is_le, is_lt, ordering_index, ordering_reverse}
use Rattle.std.specs.Prelude.{slice_get}
use Rattle.std.specs.declared.cmp.Ordering.TheVariants.{Less, Equal, Greater}
use Rattle.std.specs.declared.cmp.Ordering.{Ordering}

-- ---- halves

pub lt_is : (o : Ordering) → is_lt o ≡ true → o ≡ Less
lt_is Less test = refl
lt_is o test = cc

not_lt_is : (o : Ordering) → is_lt o ≡ false → o ≢ Less
not_lt_is Less no_lt = λ less. cc
not_lt_is o no_lt = λ less. cc

le_is : (o : Ordering) → is_le o ≡ true → o ≢ Greater
le_is Less test = λ greater. cc
le_is o test = λ greater. cc

pub not_le_is : (o : Ordering) → is_le o ≡ false → o ≡ Greater
not_le_is Greater no_le = refl
not_le_is o no_le = cc

module _ {X : Type 0} (key : X → List ℕ) (xs : List X) (hash : List ℕ) where
  rises : IsSortedByKey key octets_cmp xs → IsNonDecreasingBy (λ (x : X). ordering_index (octets_cmp (key x) hash)) xs
  rises sorted = searchable_from_sorted nat_list_cmp_total key xs hash sorted

  pub lt_parts : IsSortedByKey key octets_cmp xs → IsPartitionedBy (λ (x : X). is_lt (octets_cmp (key x) hash)) xs
  lt_parts sorted i j d before within lt =
      lt_before (octets_cmp (key (get_or xs i d)) hash) (octets_cmp (key (get_or xs j d)) hash) (rises sorted i j d before within) lt

  pub le_parts : IsSortedByKey key octets_cmp xs → IsPartitionedBy (λ (x : X). is_le (octets_cmp (key x) hash)) xs
  le_parts sorted i j d before within le =
      le_before (octets_cmp (key (get_or xs i d)) hash) (octets_cmp (key (get_or xs j d)) hash) (rises sorted i j d before within) le

  pub lt_point : (n : ℕ) → IsPartitionPoint (λ (x : X). is_lt (octets_cmp (key x) hash) ≡ true) (λ x. is_lt (octets_cmp (key x) hash) ≡ false) xs n
      → IsPartitionPoint (λ (x : X). octets_cmp (key x) hash ≡ Less) (λ x. octets_cmp (key x) hash ≢ Less) xs n
  lt_point n point =
      (λ k d from below. lt_is (octets_cmp (key (get_or xs k d)) hash) (point.0 k d from below), λ k d from below. not_lt_is (octets_cmp (key (get_or xs k d)) hash) (point.1 k d from below))

  pub le_point : (n : ℕ) → IsPartitionPoint (λ (x : X). is_le (octets_cmp (key x) hash) ≡ true) (λ x. is_le (octets_cmp (key x) hash) ≡ false) xs n
      → IsPartitionPoint (λ (x : X). octets_cmp (key x) hash ≢ Greater) (λ x. octets_cmp (key x) hash ≡ Greater) xs n
  le_point n point =
      (λ k d from below. le_is (octets_cmp (key (get_or xs k d)) hash) (point.0 k d from below), λ k d from below. not_le_is (octets_cmp (key (get_or xs k d)) hash) (point.1 k d from below))

-- ---- order

at_least : (a b c : List ℕ) (a_b : Ordering) → octets_cmp a b ≡ a_b → a_b ≢ Less → octets_cmp c b ≡ Less → octets_cmp a c ≡ Greater
at_least a b c Less is far less = absurd (far refl)
at_least a b c Equal is far less =
    let alike : octets_cmp a c ≡ octets_cmp b c = nat_list_cmp_total.congr a b c is in
    let back : octets_cmp b c ≡ ordering_reverse (octets_cmp c b) = nat_list_cmp_total.antisymm b c in
    alike ∙ back ∙ ap ordering_reverse less
at_least a b c Greater is far less =
    let back : octets_cmp b a ≡ Less = nat_list_cmp_total.antisymm b a ∙ ap ordering_reverse is in
    let chain : octets_cmp c a ≡ Less = nat_list_cmp_total.trans c b a less back in
    nat_list_cmp_total.antisymm a c ∙ ap ordering_reverse chain

-- what isn't before a hash that is behind another is behind that one too
pub reaches_behind : (reach hash next : List ℕ) → octets_cmp reach next ≢ Less → octets_cmp hash next ≡ Less → octets_cmp reach hash ≡ Greater
reaches_behind reach hash next far ahead = at_least reach next hash (octets_cmp reach next) refl far ahead

-- ---- parts of the index

-- what stands from the one place to before the other is among those
pub in_part : (places : List HashPlace) (start end k : ℕ) (item : HashPlace) → k < length places → get_or places k item ≡ item → start ≤ k → k < end
    → Contains (take (end - start) (drop start places)) item
in_part places start end k item within at from before =
    let place : start + (k - start) ≡ k = omega arith in
    let rest : get_or (drop start places) (k - start) item ≡ item = get_or-drop start places (k - start) item ∙ ap (λ (n : ℕ). get_or places n item) place ∙ at in
    let inside : k - start < length (drop start places) = omega (arith, length-drop start places) in
    (k - start, omega (arith, inside, length-take (end - start) (drop start places)), get_or-take (end - start) (drop start places) (k - start) item (omega arith) ∙ rest)

-- a part has nothing else
pub part_of : (places : List HashPlace) (start count : ℕ) (item : HashPlace) → Contains (take count (drop start places)) item → Contains places item
part_of places start count item (k, within, at) =
    let counts = length-take count (drop start places) in
    let rest = length-drop start places in
    (start + k, omega (arith, within), sym (get_or-drop start places k item) ∙ (sym (get_or-take count (drop start places) k item (omega (arith, within))) ∙ at))

module _ (entries : List Nsec3Entry) (by_hash : List HashPlace) (reaches : List (List ℕ)) (wrapping : List HashPlace)
    (index : IsIndexOf entries by_hash reaches wrapping) where
  pub all_within : (item : HashPlace) → Contains by_hash item → item.place < length entries
  all_within item among =
      let is = index.places.each item among in slice_get_within entries item.place is.entry is.there

  pub part_within : (start count : ℕ) → AreWithin entries (take count (drop start by_hash))
  part_within start count = λ item among. all_within item (part_of by_hash start count item among)

  pub wrapping_within : AreWithin entries wrapping
  wrapping_within = λ item among. all_within item (index.are_wrapping.each item among)

  -- the one that stands for the record
  item_of : (place : ℕ) (entry : Nsec3Entry) → slice_get entries place ≡ Some entry
      → (item : HashPlace) × Contains by_hash item × (item.place ≡ place) × (item.hash ≡ entry.hash) × (item.next ≡ entry.next_hash)
  item_of place entry there =
      let listed = index.places.all place (slice_get_within entries place entry there) in
      let is = index.places.each listed.item listed.among in
      let other : slice_get entries place ≡ Some is.entry = subst (λ (n : ℕ). slice_get entries n ≡ Some is.entry) listed.same is.there in
      let same : is.entry ≡ entry = cc in
      (listed.item, listed.among, listed.same, is.hash ∙ ap (λ (e : Nsec3Entry). e.hash) same, is.next ∙ ap (λ (e : Nsec3Entry). e.next_hash) same)

  pub wrapping_all : (place : ℕ) (entry : Nsec3Entry) → slice_get entries place ≡ Some entry → octets_cmp entry.hash entry.next_hash ≢ Less
      → IsListed wrapping place
  wrapping_all place entry there wraps =
      let (item, among, same, hash, next) = item_of place entry there in
      record { item = item; among = index.are_wrapping.all item among (rw (hash, next) wraps); same = same }

  module _ (hash : List ℕ) (before : ℕ)
      (to : IsPartitionPoint (λ (each : HashPlace). octets_cmp each.hash hash ≡ Less) (λ each. octets_cmp each.hash hash ≢ Less) by_hash before) where
    pub at_all : (up_to : ℕ) → IsPartitionPoint (λ (each : HashPlace). octets_cmp each.hash hash ≢ Greater) (λ each. octets_cmp each.hash hash ≡ Greater) by_hash up_to
        → (place : ℕ) (entry : Nsec3Entry) → slice_get entries place ≡ Some entry → entry.hash ≡ hash
        → IsListed (take (up_to - before) (drop before by_hash)) place
    at_all up_to end place entry there is =
        let (item, among, same, own, next) = item_of place entry there in
        let (k, within, at) = among in
        let tied : octets_cmp item.hash hash ≡ Equal = rw (own ∙ is) (tied_itself nat_list_cmp_total hash) in
        let from : before ≤ k = ⊎_elim
        (λ (early : k < before). let less : octets_cmp item.hash hash ≡ Less = subst (λ (each : HashPlace). octets_cmp each.hash hash ≡ Less) at (to.0 k item (omega arith) early) in absurd (cc))
        (λ (late : before ≤ k). late) (cases_lt k before) in
        let below : k < up_to = ⊎_elim
        (λ (early : k < up_to). early)
        (λ (late : up_to ≤ k). let greater : octets_cmp item.hash hash ≡ Greater = subst (λ (each : HashPlace). octets_cmp each.hash hash ≡ Greater) at (end.1 k item late within) in absurd (cc))
        (cases_lt k up_to) in
        record { item = item; among = in_part by_hash before up_to k item within at from below; same = same }

    pub around_all : (reaching : ℕ) → IsPartitionPoint (λ (each : List ℕ). octets_cmp each hash ≢ Greater) (λ each. octets_cmp each hash ≡ Greater) reaches reaching
        → (place : ℕ) (entry : Nsec3Entry) → slice_get entries place ≡ Some entry
        → octets_cmp entry.hash hash ≡ Less → octets_cmp hash entry.next_hash ≡ Less
        → IsListed (take (before - reaching) (drop reaching by_hash)) place
    around_all reaching start place entry there behind ahead =
        let (item, among, same, own, next) = item_of place entry there in
        let (k, within, at) = among in
        let counts = index.are_reaches.count in
        let reach = get_or reaches k [] in
        let stands : slice_get reaches k ≡ Some reach = slice_get-get_or reaches k [] (omega (arith, within, counts)) in
        let item_there : slice_get by_hash k ≡ Some item = slice_get-get_or by_hash k item within ∙ ap Some at in
        let far : octets_cmp reach item.next ≢ Less = index.are_reaches.each k item reach item_there stands in
        let below : k < before = ⊎_elim
        (λ (early : k < before). early)
        (λ (late : before ≤ k). let none : octets_cmp item.hash hash ≢ Less = subst (λ (each : HashPlace). octets_cmp each.hash hash ≢ Less) at (to.1 k item late within) in absurd (none (rw own behind)))
        (cases_lt k before) in
        let from : reaching ≤ k = ⊎_elim
        (λ (early : k < reaching). absurd (start.0 k [] (omega arith) early (reaches_behind reach hash item.next far (rw next ahead))))
        (λ (late : reaching ≤ k). late) (cases_lt k reaching) in
        record { item = item; among = in_part by_hash reaching before k item within at from below; same = same }

-- ---- what records say of a hash

module _ (entries : List Nsec3Entry) (parameters : Parameters) (hash : List ℕ) where
  -- where those with the hash are listed, so are those that say that they have it
  pub match_listed : (places : List HashPlace) (Says : Nsec3Entry → Type 0)
      → ((place : ℕ) (entry : Nsec3Entry) → slice_get entries place ≡ Some entry → entry.hash ≡ hash → IsListed places place)
      → (place : ℕ) → IsSaidAt (λ entry. HasHash parameters hash (read_nsec3 entry) × Says entry) entries place → IsListed places place
  match_listed places Says all place said = all place said.entry said.there said.says.0.1

  -- a gap that ends behind its owner has what is between the two
  between_ends : (owner next : List ℕ) (ends : Ordering) → octets_cmp owner next ≡ ends → between ends (octets_cmp owner hash) (octets_cmp hash next)
      → ((octets_cmp owner hash ≡ Less) × (octets_cmp hash next ≡ Less)) ⊎ (octets_cmp owner next ≢ Less)
  between_ends owner next Less is lies = inl lies
  between_ends owner next ends is lies = inr (λ less. cc)

  pub cover_listed : (around wrapping : List HashPlace) (Says : Nsec3Entry → Type 0)
      → ((place : ℕ) (entry : Nsec3Entry) → slice_get entries place ≡ Some entry → octets_cmp entry.hash hash ≡ Less → octets_cmp hash entry.next_hash ≡ Less → IsListed around place)
      → ((place : ℕ) (entry : Nsec3Entry) → slice_get entries place ≡ Some entry → octets_cmp entry.hash entry.next_hash ≢ Less → IsListed wrapping place)
      → (place : ℕ) → IsSaidAt (λ entry. CoversHash parameters hash (read_nsec3 entry) × Says entry) entries place
      → IsListed around place ⊎ IsListed wrapping place
  cover_listed around wrapping Says all_around all_wrapping place said =
      let entry = said.entry in
      ⊎_elim
      (λ (inside : (octets_cmp entry.hash hash ≡ Less) × (octets_cmp hash entry.next_hash ≡ Less)). inl (all_around place entry said.there inside.0 inside.1))
      (λ (wraps : octets_cmp entry.hash entry.next_hash ≢ Less). inr (all_wrapping place entry said.there wraps))
      (between_ends entry.hash entry.next_hash (octets_cmp entry.hash entry.next_hash) refl said.says.0.1.lies)
