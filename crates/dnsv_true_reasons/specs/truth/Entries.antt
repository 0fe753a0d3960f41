-- When what is said of trust anchors and DS records is so, and which keys they fit (RFC 4034 5.2, RFC 4035 5.2, RFC 4509 3).
use Rattle.std.specs.Prelude.{◌≡◌, ℕ, List, Option, Some, None}
use Rattle.std.specs.List.{AllZip}
use Rattle.dnsv_names.specs.Name.{Labels, SameName}
use Rattle.dnsv_records.specs.Ds.{IsDs}
use Rattle.dnsv_records.specs.declared.ds.Ds.{Ds}
use Rattle.dnsv_records.specs.declared.number.DigestType.{DigestType}
use Rattle.dnsv_canonical.specs.Rrsets.{IsNumbered, ReceivedRrset}
use Rattle.dnsv_canonical.specs.declared.number.RecordNumber.{RecordNumber}
use Rattle.dnsv_anchors.specs.Anchor.{anchor_owner}
use Rattle.dnsv_anchors.specs.declared.anchor.Anchor.{Anchor}
use Rattle.dnsv_zone_faults.specs.Groups.{anchor_wanted}
use Rattle.dnsv_zone_keys.specs.Vouchers.{HasNoKey, HasTag, HasUnknownDigest, IsIgnoredBeside, IsMatchOf, IsVoucherFault, IsWantedBy, Wanted, wanted_key}
use Rattle.dnsv_zone_keys.specs.Vouchers.Wanted.{by_digest, whole_key}
use Rattle.dnsv_lines.specs.declared.line.fault.zone.EntryFault.{EntryFault}
use Rattle.dnsv_lines.specs.declared.line.fault.zone.EntryNumber.{EntryNumber}
use Rattle.dnsv_lines.specs.declared.line.fault.zone.EntryNumber.TheVariants as number
use Rattle.dnsv_lines.specs.declared.line.fault.zone.WhyEntry.TheVariants as why
use Rattle.dnsv_trust_reasons.specs.Places.{IsPlaced}
use Rattle.dnsv_chain.specs.Basis.{Basis}
use Rattle.dnsv_verifier.specs.Admissible.{DnskeyRecord}

-- ---- what vouches for the keys of a zone

-- the trust anchor with the number is just at the zone, and asks for this
pub record IsAnchorOf (basis : Basis) (zone : Labels) (a : ℕ) (wanted : Wanted) : Type 0 where
  pub anchor : Anchor
  pub numbered : IsNumbered basis.anchors a anchor
  pub owner : SameName (anchor_owner anchor) zone
  pub asks : wanted ≡ anchor_wanted anchor

-- the record with the number is one of a DS RRset of the zone, and asks for this beside the others
pub record IsDsOf (basis : Basis) (zone : Labels) (number : RecordNumber) (wanted : Wanted) : Type 0 where
  pub rrset : ReceivedRrset
  pub numbered : IsNumbered basis.rrsets number.rrset rrset
  pub owner : SameName rrset.owner zone
  pub rtype : rrset.rtype ≡ 43
  pub records : List Ds
  pub all : AllZip IsDs rrset.rdata records
  pub rdata : List ℕ
  pub placed : IsPlaced rrset number.place rdata
  pub ds : Ds
  pub read : IsDs rdata ds
  pub asks : wanted ≡ by_digest records ds

abbrev pub IsVoucherOf : Basis → Labels → EntryNumber → Wanted → Type 0
IsVoucherOf basis zone (number.Anchor a) wanted = IsAnchorOf basis zone a wanted
IsVoucherOf basis zone (number.Ds record_number) wanted = IsDsOf basis zone record_number wanted

abbrev pub wanted_digest : Wanted → Option DigestType
wanted_digest (by_digest records ds) = Some ds.digest_type
wanted_digest (whole_key rdata) = None

-- ---- an entry

-- it tells of a trust anchor or a DS record of its zone, and the word is true of that
pub record IsEntryTrue (basis : Basis) (fault : EntryFault) : Type 0 where
  pub wanted : Wanted
  pub vouches : IsVoucherOf basis fault.entry.zone fault.entry.number wanted
  pub key : fault.entry.key ≡ wanted_key wanted
  pub digest_type : fault.entry.digest_type ≡ wanted_digest wanted
  pub is : IsVoucherFault basis.rrsets fault.entry.zone wanted fault.why

-- ---- the keys that it fits

-- What is of no use fits all keys. Else it fits those that it matches; where it matches none, those with its tag and algorithm;
-- where there are none, those with its tag; and where there are none of these either, all.
pub data Fits (rrsets : List ReceivedRrset) (zone : Labels) (wanted : Wanted) (key : DnskeyRecord) : Type 0 where
  without_algorithm : IsVoucherFault rrsets zone wanted why.Algorithm → Fits rrsets zone wanted key
  without_digest : HasUnknownDigest wanted → Fits rrsets zone wanted key
  beside_stronger : IsIgnoredBeside wanted → Fits rrsets zone wanted key
  matching : IsMatchOf wanted key → Fits rrsets zone wanted key
  without_match : HasNoKey rrsets zone (IsMatchOf wanted) → IsWantedBy wanted key → Fits rrsets zone wanted key
  without_name : HasNoKey rrsets zone (IsWantedBy wanted) → HasTag wanted key → Fits rrsets zone wanted key
  without_tag : HasNoKey rrsets zone (HasTag wanted) → Fits rrsets zone wanted key
