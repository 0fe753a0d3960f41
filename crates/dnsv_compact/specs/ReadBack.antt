-- A compact list read back: the entries that it says (RFC 4034 3.1.8.1, RFC 4035 5.3.2).
use Rattle.std.specs.Prelude.{◌≡◌, ℕ, List, [], ◌∷◌, ◌++◌, Contains, get_or, length, take, drop}
use Rattle.std.specs.Int.{w16, to_be_bytes}
use Rattle.std.specs.List.{flat_map}
use Rattle.dnsv_names.specs.Name.{Labels, wire}
use Rattle.dnsv_canonical.specs.Rrsets.{IsNumbered}
use Rattle.dnsv_canonical.specs.SignedData.{signed_owner}
use Rattle.dnsv_verifier.specs.declared.entry.Entry.{Entry}
use Rattle.dnsv_compact.specs.CompactList.{ListContents, ListedRrset, ListedSignature}
use Rattle.dnsv_compact.specs.declared.key.ListedKey.{ListedKey}
use Rattle.dnsv_compact.specs.declared.place.Place.{Place}

-- a record as it is signed: the owner, the type, class IN, the original TTL, which are octets 4 to 7 of what stands in
-- front, the length of the RDATA, and the RDATA
abbrev pub record_behind : List ℕ → Labels → ℕ → List ℕ → List ℕ
record_behind front owner rtype rdata =
    wire owner ++ to_be_bytes w16 rtype ++ 0 ∷ 1 ∷ [] ++ take 4 (drop 4 front) ++ to_be_bytes w16 (length rdata) ++ rdata

-- What the signature signs: what stands in front, and each record, at the owner, or where octet 3 of the front, Labels, is
-- below the number of its labels, at `*` and the rightmost Labels of them.
abbrev pub octets_behind : ListedRrset → List ℕ → List ℕ
octets_behind rrset front =
    front ++ flat_map (record_behind front (signed_owner rrset.owner (get_or front 3 0)) rrset.rtype) rrset.rdata

-- an entry that a list says: by the key with the number, and the signature with the number of the RRset with the number
pub record Says (contents : ListContents) (place : Place) (entry : Entry) : Type 0 where
  pub key : ListedKey
  pub its_key : IsNumbered contents.keys place.key key
  pub algorithm : entry.algorithm ≡ key.algorithm
  pub octets : entry.key ≡ key.key
  pub rrset : ListedRrset
  pub among : Contains contents.rrsets rrset
  pub its_number : rrset.number ≡ place.rrset
  pub signature : ListedSignature
  pub made : Contains rrset.signatures signature
  pub its_own : signature.number ≡ place.signature
  pub signed : entry.signed_data ≡ octets_behind rrset signature.front
  pub by : entry.signature ≡ signature.octets

-- the entries that a list says, one for each place
abbrev pub SayEach : ListContents → List Place → List Entry → Type 0
SayEach contents [] [] = Unit {0}
SayEach contents [] (entry ∷ entries) = ⊥
SayEach contents (place ∷ places) [] = ⊥
SayEach contents (place ∷ places) (entry ∷ entries) = Says contents place entry × SayEach contents places entries
