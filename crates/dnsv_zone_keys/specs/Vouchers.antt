-- What vouches for keys of a zone: trust anchors and DS records, the keys that they match, or why they match none (RFC 4034
-- 5.2, RFC 4035 5.2, RFC 4509 3).
pub mod VoucherSearch
use Rattle.std.specs.Prelude.{◌≡◌, ◌↔◌, ◌⊎◌, ℕ, List, [], ◌∷◌, Option, Some, None, Contains, IsTrue}
use Rattle.std.specs.List.Sorted.{IsStrictlyIncreasing}
use Rattle.dnsv_names.specs.Name.{Labels}
use Rattle.dnsv_names.specs.Octets.{number_at}
use Rattle.dnsv_records.specs.Algorithm.{is_supported}
use Rattle.dnsv_records.specs.Dnskey.KeyTag.{key_tag_of}
use Rattle.dnsv_records.specs.declared.ds.Ds.{Ds}
use Rattle.dnsv_canonical.specs.Rrsets.{ReceivedRrset}
use Rattle.dnsv_anchors.specs.Ds.{IsIgnored, IsSupported}
use Rattle.dnsv_chain.specs.Ds.{HasDigestOf}
use Rattle.dnsv_verifier.specs.Admissible.{DnskeyRecord}
use Rattle.dnsv_lines.specs.declared.line.derivation.KeyName.{KeyName}
use Rattle.dnsv_lines.specs.declared.line.fault.zone.EntryNumber.{EntryNumber}
use Rattle.dnsv_lines.specs.declared.line.fault.zone.WhyEntry.{WhyEntry}
use Rattle.dnsv_lines.specs.declared.line.fault.zone.WhyEntry.TheVariants as why
use Rattle.dnsv_mending.specs.declared.facts.keys.VoucherFacts.{VoucherFacts}
use Rattle.dnsv_zone_keys.specs.Keys.{IsKeyPlaced}

-- ---- what is asked for

-- a DS record, of a trust anchor or beside these records of its DS RRset; or the RDATA of a DNSKEY record of an anchor
pub data Wanted : Type 0 where
  by_digest : List Ds → Ds → Wanted
  whole_key : List ℕ → Wanted

-- the key that it asks for, by tag and algorithm
abbrev pub wanted_key : Wanted → KeyName
wanted_key (by_digest records ds) = record { tag = ds.key_tag; algorithm = ds.algorithm }
wanted_key (whole_key rdata) = record { tag = record { 0 = key_tag_of rdata }; algorithm = record { 0 = number_at rdata 3 1 } }

-- the tag of the key is the one that it asks for; of a whole key the RDATA is
abbrev pub HasTag : Wanted → DnskeyRecord → Type 0
HasTag (by_digest records ds) key = key_tag_of key.rdata ≡ ds.key_tag.0
HasTag (whole_key rdata) key = key.rdata ≡ rdata

-- and so is its algorithm
abbrev pub IsWantedBy : Wanted → DnskeyRecord → Type 0
IsWantedBy (by_digest records ds) key = (key_tag_of key.rdata ≡ ds.key_tag.0) × (key.dnskey.algorithm.0 ≡ ds.algorithm.0)
IsWantedBy (whole_key rdata) key = key.rdata ≡ rdata

-- and it is the digest of the key, or the key itself
abbrev pub IsMatchOf : Wanted → DnskeyRecord → Type 0
IsMatchOf (by_digest records ds) key = IsWantedBy (by_digest records ds) key × HasDigestOf ds key
IsMatchOf (whole_key rdata) key = key.rdata ≡ rdata

-- ---- why it matches none

-- no key of the zone is such
abbrev pub HasNoKey : List ReceivedRrset → Labels → (DnskeyRecord → Type 0) → Type 0
HasNoKey rrsets zone Such = (place : ℕ) (key : DnskeyRecord) → IsKeyPlaced rrsets zone place key → ¬ Such key

-- some key of the zone is
abbrev pub HasSuchKey : List ReceivedRrset → Labels → (DnskeyRecord → Type 0) → Type 0
HasSuchKey rrsets zone Such = (place : ℕ) × (key : DnskeyRecord) × IsKeyPlaced rrsets zone place key × Such key

-- the digest type isn't supported, where there is one
abbrev pub HasUnknownDigest : Wanted → Type 0
HasUnknownDigest (by_digest records ds) = ¬ IsSupported ds.digest_type.0
HasUnknownDigest (whole_key rdata) = ⊥

-- its DS RRset holds a stronger digest type
abbrev pub IsIgnoredBeside : Wanted → Type 0
IsIgnoredBeside (by_digest records ds) = IsIgnored records ds
IsIgnoredBeside (whole_key rdata) = ⊥

-- true exactly where
abbrev pub IsVoucherFault : List ReceivedRrset → Labels → Wanted → WhyEntry → Type 0
IsVoucherFault rrsets zone wanted why.Algorithm = ¬ IsTrue (is_supported (wanted_key wanted).algorithm.0)
IsVoucherFault rrsets zone wanted why.DigestType = HasUnknownDigest wanted
IsVoucherFault rrsets zone wanted why.DigestIgnored = IsIgnoredBeside wanted
IsVoucherFault rrsets zone wanted why.KeyMissing = HasNoKey rrsets zone (HasTag wanted)
IsVoucherFault rrsets zone wanted why.KeyAlgorithm =
    HasSuchKey rrsets zone (HasTag wanted) × HasNoKey rrsets zone (IsWantedBy wanted)
IsVoucherFault rrsets zone wanted why.DigestDiffers =
    HasSuchKey rrsets zone (IsWantedBy wanted) × HasNoKey rrsets zone (IsMatchOf wanted)

abbrev pub voucher_faults : List WhyEntry
voucher_faults =
    why.Algorithm ∷ why.DigestType ∷ why.DigestIgnored ∷ why.KeyMissing ∷ why.KeyAlgorithm ∷ why.DigestDiffers ∷ []

-- the first of the list that is such, if there is one
abbrev pub IsFirstOf : {X : Type 0} → (X → Type 0) → List X → Option X → Type 0
IsFirstOf {X} Such [] found = found ≡ None
IsFirstOf {X} Such (x ∷ xs) found = (Such x × (found ≡ Some x)) ⊎ ((¬ Such x) × IsFirstOf Such xs found)

-- ---- a voucher

-- the places of the keys that it matches, where it may be used
pub record AreMatches (rrsets : List ReceivedRrset) (zone : Labels) (wanted : Wanted) (why : Option WhyEntry) (matches : List ℕ)
    : Type 0 where
  pub rising : IsStrictlyIncreasing matches
  pub members : (place : ℕ) → Contains matches place
      ↔ ((why ≡ None) × ((key : DnskeyRecord) × IsKeyPlaced rrsets zone place key × IsMatchOf wanted key))

-- the facts are those of this anchor or DS record of the zone, which has the number
pub record AreVoucherFacts (rrsets : List ReceivedRrset) (zone : Labels) (number : EntryNumber) (wanted : Wanted) (facts : VoucherFacts)
    : Type 0 where
  pub number_is : facts.number ≡ number
  pub name : facts.name ≡ wanted_key wanted
  pub fault : IsFirstOf (IsVoucherFault rrsets zone wanted) voucher_faults facts.why
  pub matched : AreMatches rrsets zone wanted facts.why facts.matches.items
