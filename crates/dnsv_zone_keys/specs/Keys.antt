-- The keys of a zone, each once and with its place among them, and those that a signature names (RFC 4034 2.1, 3.1).
pub mod Index
pub mod KeySearch
pub mod ZoneSearch
use Rattle.std.specs.Prelude.{◌≡◌, ◌≢◌, ℕ, IsBitSet, List, [], ◌∷◌, ◌++◌, Some, slice_get}
use Rattle.std.specs.Str.{bytes_eq}
use Rattle.dnsv_names.specs.Name.{Labels, SameName}
use Rattle.dnsv_records.specs.Dnskey.{IsDnskey}
use Rattle.dnsv_records.specs.Dnskey.KeyTag.{key_tag_of}
use Rattle.dnsv_records.specs.declared.rrsig.Rrsig.{Rrsig}
use Rattle.dnsv_canonical.specs.Canonical.{IsCanonical}
use Rattle.dnsv_canonical.specs.Index.{numbers_at}
use Rattle.dnsv_canonical.specs.Rrsets.{IsNumbered, ReceivedRrset, first_appearances}
use Rattle.dnsv_verifier.specs.Admissible.{DnskeyRecord}

-- ---- the keys of a zone

-- the records of the RRset with the number in canonical order (RFC 4034 6.3)
pub record AreRecordsOf (rrsets : List ReceivedRrset) (number : ℕ) (records : List (List ℕ)) : Type 0 where
  pub rrset : ReceivedRrset
  pub numbered : IsNumbered rrsets number rrset
  pub canonical : IsCanonical rrset.rdata records

-- those of the RRsets with these numbers, one RRset behind the other
abbrev pub AreStanding : List ReceivedRrset → List ℕ → List (List ℕ) → Type 0
AreStanding rrsets [] standing = standing ≡ []
AreStanding rrsets (number ∷ numbers) standing =
    (records : List (List ℕ)) × (others : List (List ℕ)) × AreRecordsOf rrsets number records
    × AreStanding rrsets numbers others × (standing ≡ records ++ others)

-- the keys of the zone: the RDATA of its DNSKEY records, each once, in the order in which they first stand in its DNSKEY
-- RRsets
pub record AreZoneKeys (rrsets : List ReceivedRrset) (zone : Labels) (keys : List (List ℕ)) : Type 0 where
  pub standing : List (List ℕ)
  pub stand : AreStanding rrsets (numbers_at rrsets zone 48) standing
  pub once : keys ≡ first_appearances bytes_eq standing

-- a DNSKEY record at the zone, with its place among the keys of the zone, from 0
pub record IsKeyPlaced (rrsets : List ReceivedRrset) (zone : Labels) (place : ℕ) (key : DnskeyRecord) : Type 0 where
  pub keys : List (List ℕ)
  pub are : AreZoneKeys rrsets zone keys
  pub at : slice_get keys place ≡ Some key.rdata
  pub read : IsDnskey key.rdata key.dnskey
  pub owner : SameName key.owner zone

-- it has a DNSKEY RRset
abbrev pub HasKeys : List ReceivedRrset → Labels → Type 0
HasKeys rrsets zone = numbers_at rrsets zone 48 ≢ []

-- ---- what a signature names

-- a key that a zone may sign with (RFC 4034 2.1.1, 2.1.2)
pub record IsZoneKey (key : DnskeyRecord) : Type 0 where
  pub protocol : key.dnskey.protocol ≡ 3
  pub zone_key : IsBitSet key.dnskey.flags.0 8

-- the key has the tag and the algorithm of the signature
pub record IsNamed (rrsig : Rrsig) (key : DnskeyRecord) : Type 0 where
  pub tag : key_tag_of key.rdata ≡ rrsig.key_tag.0
  pub algorithm : key.dnskey.algorithm.0 ≡ rrsig.algorithm.0

-- so has one of its signer
pub record NamesKey (rrsets : List ReceivedRrset) (rrsig : Rrsig) : Type 0 where
  pub place : ℕ
  pub key : DnskeyRecord
  pub placed : IsKeyPlaced rrsets rrsig.signer place key
  pub named : IsNamed rrsig key

-- and so has one that the zone may sign with
pub record NamesZoneKey (rrsets : List ReceivedRrset) (rrsig : Rrsig) : Type 0 where
  pub place : ℕ
  pub key : DnskeyRecord
  pub placed : IsKeyPlaced rrsets rrsig.signer place key
  pub named : IsNamed rrsig key
  pub zone_key : IsZoneKey key
