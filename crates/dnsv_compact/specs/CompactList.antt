-- The compact list: what a verifier is asked of a capture, each octet of keys, records and signatures once.
use Rattle.std.specs.Prelude.{◌≡◌, ◌⊎◌, ◌<◌, ◌≤◌, ◌↔◌, ℕ, suc, Bool, true, false, ◌==◌, ◌&&◌, List, [], ◌∷◌, ◌++◌, Some, Contains, map}
use Rattle.std.specs.List.{list_any}
use Rattle.std.specs.List.Sorted.{IsStrictlySortedBy}
use Rattle.std.specs.Ordering.{nat_cmp, ordering_then}
use Rattle.std.specs.declared.cmp.Ordering.{Ordering}
use Rattle.dnsv_names.specs.Name.{Labels, lower_case}
use Rattle.dnsv_names.specs.Octets.{octets_cmp}
use Rattle.dnsv_records.specs.Rrsig.{IsRrsig}
use Rattle.dnsv_records.specs.declared.rrsig.Rrsig.{Rrsig}
use Rattle.dnsv_canonical.specs.Canonical.{IsCanonical}
use Rattle.dnsv_canonical.specs.CanonicalRdata.{canonical_form}
use Rattle.dnsv_canonical.specs.Rrsets.{IsNumbered, ReceivedRrset}
use Rattle.dnsv_canonical.specs.SignedData.{IsSignedData, signed_front}
use Rattle.dnsv_verifier.specs.Admissible.{IsVerifiable}
use Rattle.dnsv_verifier.specs.declared.entry.Entry.{Entry}
use Rattle.dnsv_compact.specs.declared.key.ListedKey.{ListedKey}
use Rattle.dnsv_compact.specs.declared.place.Place.{Place}

-- ---- what a list has

-- a signature: its number among those of its RRset, its RDATA without the signature, and the signature
pub record ListedSignature : Type 0 where
  pub number : ℕ
  pub front : List ℕ
  pub octets : List ℕ

-- an RRset: its number in the capture, its owner in lower case, its type, and its RDATA in canonical form and order
pub record ListedRrset : Type 0 where
  pub number : ℕ
  pub owner : Labels
  pub rtype : ℕ
  pub rdata : List (List ℕ)
  pub signatures : List ListedSignature

-- the keys, the RRsets with their signatures, and of each entry where its parts are
pub record ListContents : Type 0 where
  pub keys : List ListedKey
  pub rrsets : List ListedRrset
  pub todo : List Place

-- ---- which keys

-- the key of an entry, with its algorithm
abbrev pub key_of_entry : Entry → ListedKey
key_of_entry entry = record { algorithm = entry.algorithm; key = entry.key }

-- by algorithm and key
abbrev pub key_cmp : ListedKey → ListedKey → Ordering
key_cmp a b = ordering_then (nat_cmp a.algorithm.0 b.algorithm.0) (octets_cmp a.key b.key)

-- the keys of the entries, each once, rising as the entries do
pub record AreKeysOf (entries : List Entry) (keys : List ListedKey) : Type 0 where
  pub rising : IsStrictlySortedBy key_cmp keys
  pub members : (key : ListedKey) → Contains keys key ↔ Contains (map key_of_entry entries) key

-- ---- which signature

-- The signature of the RRset gives the entry: it can be verified at some moment of the range, signs the entry's octets,
-- and is the entry's signature.
pub record Gives (from to : ℕ) (rrsets : List ReceivedRrset) (entry : Entry) (rrset signature : ℕ) : Type 0 where
  pub received : ReceivedRrset
  pub numbered : IsNumbered rrsets rrset received
  pub rdata : List ℕ
  pub its : IsNumbered received.signatures signature rdata
  pub rrsig : Rrsig
  pub reads : IsRrsig rdata rrsig
  pub moment : ℕ
  pub begins : from ≤ moment
  pub ends : moment ≤ to
  pub verifiable : IsVerifiable moment received rrsig
  pub signs : IsSignedData received.owner received.rtype received.rdata rrsig (Some entry.signed_data)
  pub is : entry.signature ≡ rrsig.signature

-- the numbers are those of a signature that comes before, or of the same
abbrev pub ComesFirst : ℕ → ℕ → ℕ → ℕ → Type 0
ComesFirst rrset signature other another = (rrset < other) ⊎ ((rrset ≡ other) × (signature ≤ another))

-- the lowest signature that gives the entry, RRsets first
pub record IsLowest (from to : ℕ) (rrsets : List ReceivedRrset) (entry : Entry) (rrset signature : ℕ) : Type 0 where
  pub gives : Gives from to rrsets entry rrset signature
  pub lowest : (other another : ℕ) → Gives from to rrsets entry other another → ComesFirst rrset signature other another

-- the parts of an entry: its key by its number, and the lowest signature that gives it
pub record IsPlaceOf (from to : ℕ) (rrsets : List ReceivedRrset) (keys : List ListedKey) (entry : Entry) (place : Place) : Type 0 where
  pub key : IsNumbered keys place.key (key_of_entry entry)
  pub signature : IsLowest from to rrsets entry place.rrset place.signature

-- ---- which RRsets

-- whether a place is in the RRset
abbrev pub names_rrset : List Place → ℕ → Bool
names_rrset todo rrset = list_any (λ place. place.rrset == rrset) todo

-- whether a place names the signature of the RRset
abbrev pub names_signature : List Place → ℕ → ℕ → Bool
names_signature todo rrset signature = list_any (λ place. (place.rrset == rrset) && (place.signature == signature)) todo

-- the signature as it is listed
abbrev pub listed_signature : ℕ → Rrsig → ListedSignature
listed_signature number rrsig = record { number = number; front = signed_front rrsig; octets = rrsig.signature }

-- what is listed of a signature with the number: itself, if it is named
abbrev pub IsListedIf : Bool → ℕ → Rrsig → List ListedSignature → Type 0
IsListedIf true number rrsig listed = listed ≡ listed_signature number rrsig ∷ []
IsListedIf false number rrsig listed = listed ≡ []

-- of the signatures of an RRset, the first of which has the number, those are listed that are named
abbrev pub ListsSignatures : List Place → ℕ → ℕ → List (List ℕ) → List ListedSignature → Type 0
ListsSignatures todo rrset number [] listed = listed ≡ []
ListsSignatures todo rrset number (rdata ∷ others) listed =
    (rrsig : Rrsig) × (front : List ListedSignature) × (rest : List ListedSignature) × IsRrsig rdata rrsig
    × IsListedIf (names_signature todo rrset number) number rrsig front
    × ListsSignatures todo rrset (suc number) others rest × (listed ≡ front ++ rest)

-- the RRset with the number as it is listed
pub record IsListedRrset (todo : List Place) (number : ℕ) (received : ReceivedRrset) (listed : ListedRrset) : Type 0 where
  pub is_number : listed.number ≡ number
  pub owner : listed.owner ≡ lower_case received.owner
  pub rtype : listed.rtype ≡ received.rtype
  pub rdata : IsCanonical (map (canonical_form received.rtype) received.rdata) listed.rdata
  pub signatures : ListsSignatures todo number 1 received.signatures listed.signatures

-- what is listed of an RRset: itself, if a place is in it
abbrev pub IsRrsetListedIf : Bool → List Place → ℕ → ReceivedRrset → List ListedRrset → Type 0
IsRrsetListedIf true todo number received listed =
    (rrset : ListedRrset) × IsListedRrset todo number received rrset × (listed ≡ rrset ∷ [])
IsRrsetListedIf false todo number received listed = listed ≡ []

-- of these RRsets, the first of which has the number, those are listed that a place is in
abbrev pub ListsRrsets : List Place → ℕ → List ReceivedRrset → List ListedRrset → Type 0
ListsRrsets todo number [] listed = listed ≡ []
ListsRrsets todo number (received ∷ others) listed =
    (front : List ListedRrset) × (rest : List ListedRrset)
    × IsRrsetListedIf (names_rrset todo number) todo number received front
    × ListsRrsets todo (suc number) others rest × (listed ≡ front ++ rest)

-- ---- the list

-- the keys of entries, and of each where its parts are
pub record EntryPlaces : Type 0 where
  pub keys : List ListedKey
  pub todo : List Place

-- each entry has its place, in their order
abbrev pub AreInPlaces : ℕ → ℕ → List ReceivedRrset → List ListedKey → List Entry → List Place → Type 0
AreInPlaces from to rrsets keys [] [] = Unit {0}
AreInPlaces from to rrsets keys [] (place ∷ places) = ⊥
AreInPlaces from to rrsets keys (entry ∷ entries) [] = ⊥
AreInPlaces from to rrsets keys (entry ∷ entries) (place ∷ places) =
    IsPlaceOf from to rrsets keys entry place × AreInPlaces from to rrsets keys entries places

-- the keys are those of the entries, and each entry has its place
pub record ArePlacesOf (from to : ℕ) (rrsets : List ReceivedRrset) (entries : List Entry) (places : EntryPlaces) : Type 0 where
  pub keys : AreKeysOf entries places.keys
  pub each : AreInPlaces from to rrsets places.keys entries places.todo

-- the contents are those of the compact list of these entries, each of which is asked of the RRsets at some moment of the
-- range
pub record IsCompactList (from to : ℕ) (rrsets : List ReceivedRrset) (entries : List Entry) (contents : ListContents) : Type 0 where
  pub places : ArePlacesOf from to rrsets entries (record { keys = contents.keys; todo = contents.todo })
  pub listed : ListsRrsets contents.todo 1 rrsets contents.rrsets
