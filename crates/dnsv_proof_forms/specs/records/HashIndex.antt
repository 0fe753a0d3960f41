-- An index of NSEC3 records by the hashes of their owners. No public clause cites this module.
use Rattle.std.specs.Prelude.{◌≡◌, ◌≢◌, ◌<◌, ℕ, List, Contains, Some, length, slice_get}
use Rattle.std.specs.List.Sorted.{IsSortedByKey}
use Rattle.std.specs.declared.cmp.Ordering.TheVariants.{Less}
use Rattle.dnsv_names.specs.Octets.{octets_cmp}
use Rattle.dnsv_proof_forms.specs.declared.records.entry.Nsec3Entry.{Nsec3Entry}
use Rattle.dnsv_proof_forms.specs.declared.records.hash_places.HashPlace.{HashPlace}

-- the place is among those
pub record IsListed (places : List HashPlace) (place : ℕ) : Type 0 where
  pub item : HashPlace
  pub among : Contains places item
  pub same : item.place ≡ place

-- there are records at those
abbrev pub AreWithin : {Entry : Type 0} → List Entry → List HashPlace → Type 0
AreWithin entries places = (item : HashPlace) → Contains places item → item.place < length entries

-- it has the place and the gap of a record
pub record IsPlaceOf (entries : List Nsec3Entry) (item : HashPlace) : Type 0 where
  pub entry : Nsec3Entry
  pub there : slice_get entries item.place ≡ Some entry
  pub hash : item.hash ≡ entry.hash
  pub next : item.next ≡ entry.next_hash

-- those are the places of the records, in any order
pub record ArePlacesOf (entries : List Nsec3Entry) (places : List HashPlace) : Type 0 where
  pub each : (item : HashPlace) → Contains places item → IsPlaceOf entries item
  pub all : (place : ℕ) → place < length entries → IsListed places place

-- for each place, a hash before which neither its next nor one of those before it ends
pub record AreReachesOf (places : List HashPlace) (reaches : List (List ℕ)) : Type 0 where
  pub count : length reaches ≡ length places
  pub sorted : IsSortedByKey (λ each. each) octets_cmp reaches
  pub each : (k : ℕ) (item : HashPlace) (reach : List ℕ) → slice_get places k ≡ Some item
      → slice_get reaches k ≡ Some reach → octets_cmp reach item.next ≢ Less

-- those whose next isn't behind the owner
pub record AreWrapping (places wrapping : List HashPlace) : Type 0 where
  pub each : (item : HashPlace) → Contains wrapping item → Contains places item
  pub all : (item : HashPlace) → Contains places item → octets_cmp item.hash item.next ≢ Less → Contains wrapping item

-- the index is that of the records
pub record IsIndexOf
    (entries : List Nsec3Entry) (by_hash : List HashPlace) (reaches : List (List ℕ)) (wrapping : List HashPlace)
    : Type 0 where
  pub places : ArePlacesOf entries by_hash
  pub sorted : IsSortedByKey (λ each. each.hash) octets_cmp by_hash
  pub are_reaches : AreReachesOf by_hash reaches
  pub are_wrapping : AreWrapping by_hash wrapping
