-- What lines name, by the numbers that the evidence gives it.
use Rattle.std.specs.Prelude.{◌≡◌, ◌≤◌, ℕ, List, Option, Some, None, length}
use Rattle.dnsv_names.specs.Name.{Labels, rightmost}
use Rattle.dnsv_records.specs.Dnskey.{IsDnskey}
use Rattle.dnsv_records.specs.Dnskey.KeyTag.{key_tag_of}
use Rattle.dnsv_records.specs.Ds.{IsDs}
use Rattle.dnsv_records.specs.Rrsig.{IsRrsig}
use Rattle.dnsv_records.specs.declared.number.DigestType.{DigestType}
use Rattle.dnsv_records.specs.declared.dnskey.Dnskey.{Dnskey}
use Rattle.dnsv_records.specs.declared.ds.Ds.{Ds}
use Rattle.dnsv_records.specs.declared.rrsig.Rrsig.{Rrsig}
use Rattle.dnsv_canonical.specs.Canonical.{IsCanonical}
use Rattle.dnsv_canonical.specs.Rrsets.{IsNumbered, ReceivedRrset}
use Rattle.dnsv_canonical.specs.declared.number.RecordNumber.{RecordNumber}
use Rattle.dnsv_canonical.specs.declared.number.SignatureNumber.{SignatureNumber}
use Rattle.dnsv_anchors.specs.Anchor.{anchor_owner}
use Rattle.dnsv_anchors.specs.declared.anchor.Anchor.{Anchor}
use Rattle.dnsv_anchors.specs.declared.anchor.Anchor.TheVariants as given
use Rattle.dnsv_zone_faults.specs.Groups.{anchor_wanted}
use Rattle.dnsv_zone_keys.specs.Vouchers.{wanted_key}
use Rattle.dnsv_lines.specs.declared.line.derivation.KeyName.{KeyName}
use Rattle.dnsv_lines.specs.declared.line.fault.signature.ShownSignature.{ShownSignature}
use Rattle.dnsv_lines.specs.declared.line.fault.zone.Entry.{Entry}
use Rattle.dnsv_lines.specs.declared.line.fault.zone.EntryNumber.{EntryNumber}
use Rattle.dnsv_lines.specs.declared.line.fault.zone.EntryNumber.TheVariants as number

-- ---- names

-- the name with so many labels at or above this one
pub record IsAbove (name : Labels) (n : ℕ) (above : Labels) : Type 0 where
  pub within : n ≤ length name
  pub is : above ≡ rightmost name n

-- ---- records

-- the RDATA at the place, from 1 on, in canonical order (RFC 4034 6.3)
pub record IsPlaced (rrset : ReceivedRrset) (place : ℕ) (rdata : List ℕ) : Type 0 where
  pub canonical : List (List ℕ)
  pub in_order : IsCanonical rrset.rdata canonical
  pub numbered : IsNumbered canonical place rdata

-- ---- signatures

abbrev pub shown_of : SignatureNumber → ReceivedRrset → Rrsig → ShownSignature
shown_of number rrset rrsig = record {
  owner = rrset.owner;
  rtype = record { 0 = rrset.rtype };
  number = number;
  key = record { tag = rrsig.key_tag; algorithm = rrsig.algorithm };
  signer = rrsig.signer;
}

-- the signature with the number is shown
pub record IsShown (rrsets : List ReceivedRrset) (number : SignatureNumber) (shown : ShownSignature) : Type 0 where
  pub rrset : ReceivedRrset
  pub numbered : IsNumbered rrsets number.rrset rrset
  pub rdata : List ℕ
  pub is_signature : IsNumbered rrset.signatures number.signature rdata
  pub rrsig : Rrsig
  pub read : IsRrsig rdata rrsig
  pub is : shown ≡ shown_of number rrset rrsig

-- ---- trust anchors and DS records

abbrev pub anchor_digest : Anchor → Option DigestType
anchor_digest (given.Ds owner ds) = Some ds.digest_type
anchor_digest (given.Key owner rdata) = None

abbrev pub anchor_entry : ℕ → Anchor → Entry
anchor_entry a anchor = record {
  zone = anchor_owner anchor;
  number = number.Anchor a;
  key = wanted_key (anchor_wanted anchor);
  digest_type = anchor_digest anchor;
}

abbrev pub ds_entry : RecordNumber → ReceivedRrset → Ds → Entry
ds_entry record_number rrset ds = record {
  zone = rrset.owner;
  number = number.Ds record_number;
  key = record { tag = ds.key_tag; algorithm = ds.algorithm };
  digest_type = Some ds.digest_type;
}

-- the trust anchor with the number
pub record IsAnchorEntry (anchors : List Anchor) (a : ℕ) (entry : Entry) : Type 0 where
  pub anchor : Anchor
  pub numbered : IsNumbered anchors a anchor
  pub is : entry ≡ anchor_entry a anchor

-- the DS record with the number
pub record IsDsEntry (rrsets : List ReceivedRrset) (record_number : RecordNumber) (entry : Entry) : Type 0 where
  pub rrset : ReceivedRrset
  pub numbered : IsNumbered rrsets record_number.rrset rrset
  pub rtype : rrset.rtype ≡ 43
  pub rdata : List ℕ
  pub placed : IsPlaced rrset record_number.place rdata
  pub ds : Ds
  pub read : IsDs rdata ds
  pub is : entry ≡ ds_entry record_number rrset ds

abbrev pub IsEntry : List ReceivedRrset → List Anchor → EntryNumber → Entry → Type 0
IsEntry rrsets anchors (number.Anchor a) = IsAnchorEntry anchors a
IsEntry rrsets anchors (number.Ds record_number) = IsDsEntry rrsets record_number

-- ---- keys

-- the DNSKEY record at the place has this tag and this algorithm
pub record IsKeyAt (set : ReceivedRrset) (place : ℕ) (key : KeyName) : Type 0 where
  pub rtype : set.rtype ≡ 48
  pub rdata : List ℕ
  pub placed : IsPlaced set place rdata
  pub dnskey : Dnskey
  pub read : IsDnskey rdata dnskey
  pub tag : key.tag.0 ≡ key_tag_of rdata
  pub algorithm : key.algorithm ≡ dnskey.algorithm
