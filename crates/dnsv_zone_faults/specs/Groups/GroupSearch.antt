-- How the trust anchors and the DS records of a zone are gone through. No public clause cites this module.
use Rattle.std.specs.Prelude.{◌≡◌, ◌↔◌, ◌⊎◌, ◌++◌, ◌∷◌, ℕ, List, [], Contains, IsTrue}
use Rattle.std.specs.List.{AllZip}
use Rattle.dnsv_names.specs.Name.{Labels, SameName}
use Rattle.dnsv_records.specs.Ds.{IsDs}
use Rattle.dnsv_records.specs.declared.ds.Ds.{Ds}
use Rattle.dnsv_canonical.specs.Canonical.{IsCanonical}
use Rattle.dnsv_canonical.specs.Rrsets.{IsNumbered, ReceivedRrset}
use Rattle.dnsv_anchors.specs.Anchor.{anchor_owner}
use Rattle.dnsv_anchors.specs.declared.anchor.Anchor.{Anchor}
use Rattle.dnsv_anchors.specs.Ds.{GoesBefore}
use Rattle.dnsv_chain.specs.Basis.{Basis}
use Rattle.dnsv_verifier.specs.Asking.{ComesOfSome}
use Rattle.dnsv_lines.specs.declared.line.fault.zone.EntryNumber.TheVariants as number
use Rattle.dnsv_mending.specs.declared.facts.keys.VoucherFacts.{VoucherFacts}
use Rattle.dnsv_mending.specs.declared.facts.signature.SignatureFacts.{SignatureFacts}
use Rattle.dnsv_mending.specs.declared.facts.zone.DsFacts.{DsFacts}
use Rattle.dnsv_zone_faults.specs.Groups.{AreDsFacts, AreRecordFacts, anchor_wanted}
use Rattle.dnsv_zone_keys.specs.Keys.Index.{Placed}
use Rattle.dnsv_zone_keys.specs.Vouchers.{AreVoucherFacts}
use Rattle.dnsv_zone_keys.specs.Vouchers.VoucherSearch.{AreKeysOfZone}
use Rattle.dnsv_zone_faults.specs.declared.zone.groups.ds.IgnoredTypes.{IgnoredTypes}

-- ---- anchors

-- what is so of an anchor of the zone is added, and of another nothing
pub record IsAddedAnchor (keys : List Placed) (n : ℕ) (anchor : Anchor) (old new : List VoucherFacts) : Type 0 where
  pub known : VoucherFacts
  pub is : (rrsets : List ReceivedRrset) (zone : Labels) → AreKeysOfZone rrsets zone keys
      → AreVoucherFacts rrsets zone (number.Anchor n) (anchor_wanted anchor) known
  pub added : new ≡ old ++ known ∷ []

abbrev pub AddsAnchor : List Placed → Labels → ℕ → Anchor → List VoucherFacts → List VoucherFacts → Type 0
AddsAnchor keys zone n anchor old new =
    (SameName (anchor_owner anchor) zone × IsAddedAnchor keys n anchor old new)
    ⊎ ((¬ SameName (anchor_owner anchor) zone) × (new ≡ old))

-- ---- DS RRsets

-- the number is that of a DS RRset
pub record IsDsNumber (rrsets : List ReceivedRrset) (number : ℕ) : Type 0 where
  pub rrset : ReceivedRrset
  pub numbered : IsNumbered rrsets number rrset
  pub rtype : rrset.rtype ≡ 43

-- what is so of its records
pub record AreRecordsKnown (keys : List Placed) (k : ℕ) (set : ReceivedRrset) (known : List VoucherFacts) : Type 0 where
  pub records : List Ds
  pub read : AllZip IsDs set.rdata records
  pub canonical : List (List ℕ)
  pub in_order : IsCanonical set.rdata canonical
  pub each : (rrsets : List ReceivedRrset) (zone : Labels) → AreKeysOfZone rrsets zone keys
      → AreRecordFacts rrsets zone k records 1 canonical known

-- what is so of the DS RRset with the number is added
pub record AddsDs (basis : Basis) (keys : List Placed) (k : ℕ) (old new : List DsFacts) : Type 0 where
  pub known : DsFacts
  pub is : (zone : Labels) → AreKeysOfZone basis.rrsets zone keys → AreDsFacts basis zone k known
  pub added : new ≡ old ++ known ∷ []

-- ---- digest types

-- the digest type of one of the records goes before the one with the number
pub record HasStronger (records : List Ds) (weaker : ℕ) : Type 0 where
  pub ds : Ds
  pub among : Contains records ds
  pub is : GoesBefore ds.digest_type.0 weaker

-- SHA-1, SHA-256 and SHA-384 by their numbers
pub record AreIgnoredTypes (records : List Ds) (ignored : IgnoredTypes) : Type 0 where
  pub sha1 : IsTrue ignored.sha1 ↔ HasStronger records 1
  pub sha256 : IsTrue ignored.sha256 ↔ HasStronger records 2
  pub sha384 : IsTrue ignored.sha384 ↔ HasStronger records 4

-- ---- what they match

-- the place is that of a key that it matches
abbrev pub IsMatched : VoucherFacts → ℕ → Type 0
IsMatched voucher place = Contains voucher.matches.items place

-- one of the signatures is good under a trusted key
pub record HasSigned (signatures : List SignatureFacts) : Type 0 where
  pub signature : SignatureFacts
  pub among : Contains signatures signature
  pub signed : IsTrue signature.is_signed

-- the DS RRset is signed, and a record of it matches the key
pub record IsMatchedByDs (ds : DsFacts) (place : ℕ) : Type 0 where
  pub signed : HasSigned ds.rrset.signatures.items
  pub by : ComesOfSome IsMatched ds.records.items place

-- the places of the keys that an anchor matches, or a record of a signed DS RRset
abbrev pub AreMatched : List VoucherFacts → List DsFacts → List ℕ → Type 0
AreMatched anchors ds places =
    (place : ℕ) → Contains places place ↔ (ComesOfSome IsMatched anchors place ⊎ ComesOfSome IsMatchedByDs ds place)
