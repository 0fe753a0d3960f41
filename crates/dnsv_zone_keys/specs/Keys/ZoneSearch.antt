-- How the keys of zones are gathered.
use Rattle.std.specs.Prelude.{◌≡◌, ◌++◌, ◌∷◌, ℕ, List, map}
use Rattle.std.specs.List.{AllByRecursion, enumerate_from}
use Rattle.dnsv_names.specs.Name.{Labels}
use Rattle.dnsv_records.specs.Dnskey.{IsDnskey}
use Rattle.dnsv_records.specs.declared.dnskey.Dnskey.{Dnskey}
use Rattle.dnsv_canonical.specs.Index.{numbers_at}
use Rattle.dnsv_canonical.specs.Rrsets.{IsNumbered, ReceivedRrset}
use Rattle.dnsv_rrsets.specs.declared.canonical_order.ReadRecord.{ReadRecord}
use Rattle.dnsv_zone_keys.specs.Keys.Index.{HaveAllOf, IsPlaced, Placed}
use Rattle.dnsv_zone_keys.specs.Keys.{AreRecordsOf, AreZoneKeys}

-- the number is that of a DNSKEY RRset
pub record IsDnskeyNumber (rrsets : List ReceivedRrset) (number : ℕ) : Type 0 where
  pub rrset : ReceivedRrset
  pub numbered : IsNumbered rrsets number rrset
  pub rtype : rrset.rtype ≡ 48

abbrev pub IsRead : ReadRecord Dnskey → Type 0
IsRead each = IsDnskey each.rdata.now each.record.now

-- the records of the RRset are added, as they are read
pub record AddsRecords (rrsets : List ReceivedRrset) (number : ℕ) (old new : List (ReadRecord Dnskey)) : Type 0 where
  pub records : List (List ℕ)
  pub are : AreRecordsOf rrsets number records
  pub added : map (λ each. each.rdata.now) new ≡ map (λ each. each.rdata.now) old ++ records
  pub read : AllByRecursion IsRead old → AllByRecursion IsRead new

-- a key of the owner, as it is read
pub record IsOf (owner : Labels) (placed : Placed) : Type 0 where
  pub owner_is : placed.key.owner ≡ owner
  pub read : IsDnskey placed.key.rdata placed.key.dnskey

-- the keys of the zone, each with its place
pub record AreKeysOf (rrsets : List ReceivedRrset) (zone : Labels) (placed : List Placed) : Type 0 where
  pub keys : List (List ℕ)
  pub are : AreZoneKeys rrsets zone keys
  pub order : map (λ each. (each.place, each.key.rdata)) placed ≡ enumerate_from 0 keys
  pub each : AllByRecursion (IsOf zone) placed

-- the RRset with the number is the first DNSKEY RRset of its owner
abbrev pub IsFirstOfKeys : List ReceivedRrset → ℕ → ReceivedRrset → Type 0
IsFirstOfKeys rrsets number rrset = (others : List ℕ) × (numbers_at rrsets rrset.owner 48 ≡ number ∷ others)

-- the keys of its owner are added, where it is such a one
pub record AddsZone (rrsets : List ReceivedRrset) (number : ℕ) (rrset : ReceivedRrset) (old new : List Placed) : Type 0 where
  pub added : List Placed
  pub are : new ≡ old ++ added
  pub each : AllByRecursion (IsPlaced rrsets) added
  pub every : IsFirstOfKeys rrsets number rrset → HaveAllOf rrsets added rrset.owner
