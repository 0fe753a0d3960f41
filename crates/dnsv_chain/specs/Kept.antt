-- What is kept of trust in the end. No public clause cites this module.
use Rattle.std.specs.Prelude.{◌≡◌, ℕ, List, ◌++◌, Contains, Vec, map}
use Rattle.std.specs.BTreeMap.{BTreeMap}
use Rattle.std.specs.List.{AllZip}
use Rattle.dnsv_names.specs.Name.{Labels}
use Rattle.dnsv_anchors.specs.declared.by_owner.key.OwnerKey.{OwnerKey}
use Rattle.dnsv_records.specs.declared.dnskey.Dnskey.{Dnskey}
use Rattle.dnsv_canonical.specs.Canonical.{IsCanonical}
use Rattle.dnsv_canonical.specs.Rrsets.{ReceivedRrset}
use Rattle.dnsv_verifier.specs.Admissible.{DnskeyRecord}
use Rattle.dnsv_verifier.specs.declared.answer.Answer.{Answer}
use Rattle.dnsv_verifier.specs.declared.entry.Entry.{Entry}
use Rattle.dnsv_chain.specs.Trust.{KeptTrust, keys_of}
use Rattle.dnsv_chain.specs.Signing.{AreGoodNumbers}

-- RDATA and what it is read as, from these records: each RDATA once, in order
pub record AreDistinct (records : List DnskeyRecord) (distinct : List (List ℕ × Dnskey)) : Type 0 where
  pub among : (each : List ℕ × Dnskey) → Contains distinct each
      → Contains (map (λ key. (key.rdata, key.dnskey)) records) each
  pub canonical : IsCanonical (map (λ key. key.rdata) records) (map (λ each. each.0) distinct)

-- the keys of these records, each once, in the order of their RDATA
pub record AreKeysOf (records : List DnskeyRecord) (keys : List Dnskey) : Type 0 where
  pub distinct : List (List ℕ × Dnskey)
  pub are : AreDistinct records distinct
  pub keys_are : keys ≡ map (λ each. each.1) distinct

-- the zone has the keys that are kept for the owner
abbrev pub IsZoneOf : {Y : Type 0} → OwnerKey × Vec DnskeyRecord Y → Labels × List Dnskey → Type 0
IsZoneOf kept zone = (zone.0 ≡ kept.0.0) × AreKeysOf kept.1.items zone.1

-- for each owner that has keys, in order, those keys
abbrev pub AreZones : {Y : Type 0} → BTreeMap OwnerKey (Vec DnskeyRecord Y) → List (Labels × List Dnskey) → Type 0
AreZones by_owner zones = AllZip IsZoneOf by_owner.entries zones

-- the same of the owners before the rest
pub record AreZonesBefore
    {Y : Type 0} (all rest : List (OwnerKey × Vec DnskeyRecord Y)) (zones : List (Labels × List Dnskey)) : Type 0 where
  pub done : List (OwnerKey × Vec DnskeyRecord Y)
  pub parted : done ++ rest ≡ all
  pub each : AllZip IsZoneOf done zones

-- the numbers of the good signatures of each RRset
abbrev pub AreSigned : (Entry → Answer) → ℕ → List ReceivedRrset → (Labels → List DnskeyRecord) → List (List ℕ) → Type 0
AreSigned meaning moment rrsets keys signed =
    AllZip (λ rrset numbers. AreGoodNumbers meaning moment rrset keys numbers) rrsets signed

-- what is kept is what these keys make good
pub record IsKept
    (meaning : Entry → Answer) (moment : ℕ) (rrsets : List ReceivedRrset) (keys : Labels → List DnskeyRecord)
    (trust : KeptTrust) : Type 0 where
  pub keys_are : (zone : Labels) → AreKeysOf (keys zone) (keys_of trust zone)
  pub signed_are : AreSigned meaning moment rrsets keys trust.signed
