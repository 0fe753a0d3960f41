-- How the entries that are asked are found. No public clause cites this module.
use Rattle.std.specs.Prelude.{◌≡◌, ◌↔◌, ◌⊎◌, ⊤, ℕ, IsTrue, IsBitSet, List, Contains, Some}
use Rattle.std.specs.List.{AllZip}
use Rattle.std.specs.Ordering.{nat_cmp, ordering_then}
use Rattle.std.specs.declared.cmp.Ordering.{Ordering}
use Rattle.dnsv_names.specs.Name.{Labels}
use Rattle.dnsv_names.specs.Order.{canonical_cmp}
use Rattle.dnsv_records.specs.Algorithm.{is_supported}
use Rattle.dnsv_records.specs.Dnskey.{IsDnskey}
use Rattle.dnsv_records.specs.Dnskey.KeyTag.{key_tag_of}
use Rattle.dnsv_records.specs.declared.rrsig.Rrsig.{Rrsig}
use Rattle.dnsv_canonical.specs.Rrsets.{IsNumbered, ReceivedRrset}
use Rattle.dnsv_canonical.specs.SignedData.{IsSignedData}
use Rattle.dnsv_canonical.specs.declared.number.SignatureNumber.{SignatureNumber}
use Rattle.dnsv_verifier.specs.Admissible.{DnskeyRecord, IsKeyAmong, IsSignatureOf, MayHaveMade}
use Rattle.dnsv_verifier.specs.Table.{HasNumber}
use Rattle.dnsv_verifier.specs.Within.{IsVerifiableWithin}
use Rattle.dnsv_verifier.specs.declared.entry.Entry.{Entry}
use Rattle.dnsv_verifier.specs.declared.entry.parts.SignaturePart.{SignaturePart}

-- the new list has what the old one has and what meets P, and nothing else
pub record AddsJust {X : Type 0} (P : X → Type 0) (old new : List X) : Type 0 where
  pub kept : (x : X) → Contains old x → Contains new x
  pub added : (x : X) → P x → Contains new x
  pub only : (x : X) → Contains new x → Contains old x ⊎ P x

-- x comes of a member of the list
pub record ComesOfSome {Y X : Type 0} (P : Y → X → Type 0) (ys : List Y) (x : X) : Type 0 where
  pub source : Y
  pub among : Contains ys source
  pub is : P source x

-- the new list has what the old one has, and besides only what y gives; it has something of y where Q asks for that
pub record GivesMore {Y X : Type 0} (P : Y → X → Type 0) (Q : Y → Type 0) (y : Y) (old new : List X) : Type 0 where
  pub kept : (x : X) → Contains old x → Contains new x
  pub only : (x : X) → Contains new x → Contains old x ⊎ P y x
  pub all : Q y → (x : X) × Contains new x × P y x

-- each member of xs comes of one of ys, and has one for each of ys where Q asks for that
pub record GivesEach {Y X : Type 0} (P : Y → X → Type 0) (Q : Y → Type 0) (ys : List Y) (xs : List X) : Type 0 where
  pub only : (x : X) → Contains xs x → ComesOfSome P ys x
  pub all : (y : Y) → Contains ys y → Q y → (x : X) × Contains xs x × P y x

-- it is asked for of any
abbrev pub IsAny : {Y : Type 0} → Y → Type 0
IsAny y = ⊤

-- the key is a record of the RRset
pub record IsKeyOf (rrset : ReceivedRrset) (key : DnskeyRecord) : Type 0 where
  pub rtype : rrset.rtype ≡ 48
  pub owner : key.owner ≡ rrset.owner
  pub rdata : Contains rrset.rdata key.rdata
  pub is : IsDnskey key.rdata key.dnskey

-- the keys are just those of the evidence
abbrev pub AreKeysOf : List ReceivedRrset → List DnskeyRecord → Type 0
AreKeysOf rrsets keys = (key : DnskeyRecord) → Contains keys key ↔ IsKeyAmong rrsets key

-- what a signature names keys by: tag, algorithm and owner (RFC 4034 3.1)
pub record KeyName : Type 0 where
  pub tag : ℕ
  pub algorithm : ℕ
  pub owner : Labels

abbrev pub name_of_key : DnskeyRecord → KeyName
name_of_key key = record { tag = key_tag_of key.rdata; algorithm = key.dnskey.algorithm.0; owner = key.owner }

-- what the signature names keys by
abbrev pub named_by : Rrsig → KeyName
named_by rrsig = record { tag = rrsig.key_tag.0; algorithm = rrsig.algorithm.0; owner = rrsig.signer }

-- by tag, algorithm and owner
abbrev pub key_name_cmp : KeyName → KeyName → Ordering
key_name_cmp a b =
    ordering_then (ordering_then (nat_cmp a.tag b.tag) (nat_cmp a.algorithm b.algorithm))
    (canonical_cmp a.owner b.owner)

-- what keys are named by, with a number
pub record NumberedName : Type 0 where
  pub name : KeyName
  pub number : ℕ

-- the key may have made some signature, as far as the key says (RFC 4034 2.1.1, 2.1.2)
pub record CanSign (key : DnskeyRecord) : Type 0 where
  pub protocol : key.dnskey.protocol ≡ 3
  pub zone_key : IsBitSet key.dnskey.flags.0 8
  pub supported : IsTrue (is_supported key.dnskey.algorithm.0)

-- what the signature of the RRset gives to its entries
pub record IsPartOf (rrset : ReceivedRrset) (rrsig : Rrsig) (part : SignaturePart) : Type 0 where
  pub signed_data : IsSignedData rrset.owner rrset.rtype rrset.rdata rrsig (Some part.signed_data)
  pub signature : part.signature ≡ rrsig.signature

-- the entry of a key and what a signature gives
abbrev pub entry_with : SignaturePart → DnskeyRecord → Entry
entry_with part key = record {
  algorithm = key.dnskey.algorithm;
  key = key.dnskey.key;
  signed_data = part.signed_data;
  signature = part.signature;
}

-- the key may have made the signature, and the entry is that of the key and the signature's part
pub record IsEntryBy (rrsig : Rrsig) (part : SignaturePart) (key : DnskeyRecord) (entry : Entry) : Type 0 where
  pub made : MayHaveMade key rrsig
  pub is : entry ≡ entry_with part key

-- a signature, and what it gives to its entries
pub record MadeSignature : Type 0 where
  pub rrsig : Rrsig
  pub part : SignaturePart

-- one of the keys may have made the signature
abbrev pub IsMadeBySome : List DnskeyRecord → Rrsig → Type 0
IsMadeBySome keys rrsig = (key : DnskeyRecord) × Contains keys key × MayHaveMade key rrsig

-- the signature of the RRset can be verified within the range, and one of the keys may have made it
pub record IsMadeOf (from to : ℕ) (keys : List DnskeyRecord) (rrset : ReceivedRrset) (rrsig : Rrsig)
    (made : MadeSignature) : Type 0 where
  pub same : made.rrsig ≡ rrsig
  pub verifiable : IsVerifiableWithin from to rrset rrsig
  pub by_some : IsMadeBySome keys rrsig
  pub part_of : IsPartOf rrset rrsig made.part

-- the same of some signature of the RRset
pub record IsMadeIn (from to : ℕ) (keys : List DnskeyRecord) (rrset : ReceivedRrset) (made : MadeSignature)
    : Type 0 where
  pub its : IsSignatureOf rrset made.rrsig
  pub is : IsMadeOf from to keys rrset made.rrsig made

-- the entry is that of the signature and one of the keys, which may have made it
abbrev pub IsEntryOfMade : List DnskeyRecord → MadeSignature → Entry → Type 0
IsEntryOfMade keys made entry = ComesOfSome (IsEntryBy made.rrsig made.part) keys entry

-- the signature is the one with these numbers in the evidence, and its part is what it gives to its entries
pub record IsMadeAt (rrsets : List ReceivedRrset) (number : SignatureNumber) (made : MadeSignature) : Type 0 where
  pub rrset : ReceivedRrset
  pub has_number : HasNumber rrsets number rrset made.rrsig
  pub part_of : IsPartOf rrset made.rrsig made.part

-- each has its number
abbrev pub AreMadeAt : List ReceivedRrset → List SignatureNumber → List MadeSignature → Type 0
AreMadeAt rrsets numbers made = AllZip (IsMadeAt rrsets) numbers made

-- the same of more, all of the RRset with the number, where it was so before
abbrev pub KeepsNumbers : ℕ → ReceivedRrset → List SignatureNumber → List MadeSignature → List SignatureNumber
    → List MadeSignature → Type 0
KeepsNumbers number rrset old_numbers old numbers made =
    (rrsets : List ReceivedRrset) → IsNumbered rrsets number rrset → AreMadeAt rrsets old_numbers old
    → AreMadeAt rrsets numbers made
