-- Which lines of an explanation follow from the evidence and the lines before them, each by one rule (RFC 4035 5). So a
-- reader can check a text line by line.
pub mod Cases
pub mod Parts
use Rattle.std.specs.Prelude.{◌≡◌, ℕ, List, [], ◌∷◌, ◌++◌, Contains}
use Rattle.std.specs.List.{AllZip}
use Rattle.dnsv_names.specs.Name.{Labels, SameName}
use Rattle.dnsv_records.specs.Dnskey.KeyTag.{key_tag_of}
use Rattle.dnsv_records.specs.Ds.{IsDs}
use Rattle.dnsv_records.specs.Rrsig.{IsRrsig}
use Rattle.dnsv_records.specs.declared.ds.Ds.{Ds}
use Rattle.dnsv_records.specs.declared.number.DigestType.{DigestType}
use Rattle.dnsv_records.specs.declared.rrsig.Rrsig.{Rrsig}
use Rattle.dnsv_canonical.specs.Rrsets.{IsNumbered, ReceivedRrset}
use Rattle.dnsv_verifier.specs.Admissible.{DnskeyRecord, IsGood}
use Rattle.dnsv_chain.specs.Anchor.{IsAnchorMatch}
use Rattle.dnsv_anchors.specs.Ds.{IsUsable}
use Rattle.dnsv_chain.specs.Ds.{IsMatch}
use Rattle.dnsv_chain.specs.Trusted.{IsKeyOf}
use Rattle.dnsv_anchors.specs.declared.anchor.Anchor.{Anchor}
use Rattle.dnsv_anchors.specs.declared.anchor.Anchor.TheVariants as anchor
use Rattle.dnsv_denial.specs.gathering.Evidence.{IsRecordAt}
use Rattle.dnsv_canonical.specs.declared.number.RecordNumber.{RecordNumber}
use Rattle.dnsv_derivations.specs.Explained.{Setting}
use Rattle.dnsv_derivations.specs.Following.Cases.{FollowsCase}
use Rattle.dnsv_derivations.specs.Following.Parts.{FollowsPart, IsUnusableRecord}
use Rattle.dnsv_lines.specs.declared.line.Line.{Line}
use Rattle.dnsv_lines.specs.declared.line.Line.TheVariants as line
use Rattle.dnsv_lines.specs.declared.line.cut.Cut.{Cut}
use Rattle.dnsv_lines.specs.declared.line.cut.UnusableDs.{UnusableDs}
use Rattle.dnsv_lines.specs.declared.line.denial.Part.{Part}
use Rattle.dnsv_lines.specs.declared.line.derivation.KeyName.{KeyName}
use Rattle.dnsv_canonical.specs.declared.number.SignatureNumber.{SignatureNumber}
use Rattle.dnsv_lines.specs.declared.line.derivation.SignedRrset.{SignedRrset}
use Rattle.dnsv_lines.specs.declared.line.derivation.TrustedKeys.{TrustedKeys}
use Rattle.dnsv_lines.specs.declared.line.derivation.Voucher.{Voucher}
use Rattle.dnsv_lines.specs.declared.line.derivation.Voucher.TheVariants as voucher
use Rattle.dnsv_lines.specs.declared.line.place.RrsetPlace.{RrsetPlace}

-- ---- keys and signatures

-- the key has the tag and the algorithm
pub record IsNamed (key : DnskeyRecord) (name : KeyName) : Type 0 where
  pub tag : name.tag.0 ≡ key_tag_of key.rdata
  pub algorithm : name.algorithm.0 ≡ key.dnskey.algorithm.0

-- the signature with the number, which is one of the RRset, is good under the key
pub record IsGoodUnder (setting : Setting) (number : SignatureNumber) (rrset : ReceivedRrset) (key : DnskeyRecord)
    : Type 0 where
  pub is_rrset : IsNumbered setting.rrsets number.rrset rrset
  pub rdata : List ℕ
  pub is_signature : IsNumbered rrset.signatures number.signature rdata
  pub rrsig : Rrsig
  pub read : IsRrsig rdata rrsig
  pub good : IsGood setting.meaning setting.moment rrset rrsig key

-- ---- what a line before says

-- that a signature of RRset k is good under a trusted key
pub record IsSaidSigned (before : List Line) (k : ℕ) : Type 0 where
  pub signed : SignedRrset
  pub among : Contains before (line.Signed signed)
  pub rrset : signed.signature.rrset ≡ k

-- that the signature is good under a trusted key
pub record IsSignatureSaid (before : List Line) (number : SignatureNumber) : Type 0 where
  pub signed : SignedRrset
  pub among : Contains before (line.Signed signed)
  pub is : signed.signature ≡ number

-- that DNSKEY RRset k is trusted
pub record IsSaidTrusted (before : List Line) (k : ℕ) : Type 0 where
  pub keys : TrustedKeys
  pub among : Contains before (line.Trusted keys)
  pub rrset : keys.signature.rrset ≡ k

-- ---- what matches a key

-- record K of a DS RRset can be used and matches the key (RFC 4035 5.2, RFC 4509 3)
pub record IsDsMatch (rrsets : List ReceivedRrset) (number : RecordNumber) (digest_type : DigestType) (key : DnskeyRecord)
    : Type 0 where
  pub rrset : ReceivedRrset
  pub rdata : List ℕ
  pub at : IsRecordAt rrsets number rrset rdata
  pub rtype : rrset.rtype ≡ 43
  pub ds : Ds
  pub read : IsDs rdata ds
  pub records : List Ds
  pub are_read : AllZip IsDs rrset.rdata records
  pub among : Contains records ds
  pub usable : IsUsable records ds
  pub matching : IsMatch rrset.owner ds key
  pub digest : digest_type.0 ≡ ds.digest_type.0

-- the anchor with the number, or the record of a DS RRset whose number is such, matches the key
abbrev pub IsMatchedBy : (ℕ → Type 0) → List ReceivedRrset → List Anchor → Voucher → DnskeyRecord → Type 0
IsMatchedBy Signed rrsets anchors (voucher.KeyAnchor number) key =
    (owner : Labels) × (rdata : List ℕ) × IsNumbered anchors number (anchor.Key owner rdata)
    × IsAnchorMatch (anchor.Key owner rdata) key
IsMatchedBy Signed rrsets anchors (voucher.DsAnchor number digest_type) key =
    (owner : Labels) × (ds : Ds) × IsNumbered anchors number (anchor.Ds owner ds)
    × (digest_type.0 ≡ ds.digest_type.0) × IsAnchorMatch (anchor.Ds owner ds) key
IsMatchedBy Signed rrsets anchors (voucher.Ds number digest_type) key =
    IsDsMatch rrsets number digest_type key × Signed number.rrset

-- an anchor matches the key, or a record of a DS RRset of which a line before says that it is signed
abbrev pub IsVouchedBy : Setting → List Line → Voucher → DnskeyRecord → Type 0
IsVouchedBy setting before voucher key = IsMatchedBy (IsSaidSigned before) setting.rrsets setting.anchors voucher key

-- ---- the rules

-- DNSKEY RRset R at the zone is trusted: its signature S is good under a key of R, which an anchor or a DS record
-- matches.
pub record FollowsTrusted (setting : Setting) (before : List Line) (keys : TrustedKeys) : Type 0 where
  pub set : ReceivedRrset
  pub owner : SameName set.owner keys.zone
  pub key : DnskeyRecord
  pub stands : IsKeyOf set key
  pub named : IsNamed key keys.key
  pub good : IsGoodUnder setting keys.signature set key
  pub vouched : IsVouchedBy setting before keys.voucher key

-- Signature S of RRset R is good under a key of a DNSKEY RRset at the zone, of which a line before says that it is
-- trusted.
pub record FollowsSigned (setting : Setting) (before : List Line) (signed : SignedRrset) : Type 0 where
  pub rrset : ReceivedRrset
  pub owner : SameName rrset.owner signed.owner
  pub rtype : signed.rtype.0 ≡ rrset.rtype
  pub set : ReceivedRrset
  pub is_set : IsNumbered setting.rrsets signed.keys set
  pub zone : SameName set.owner signed.zone
  pub key : DnskeyRecord
  pub stands : IsKeyOf set key
  pub named : IsNamed key signed.key
  pub good : IsGoodUnder setting signed.signature rrset key
  pub trusted : IsSaidTrusted before signed.keys

-- RRset R stands in section S of message M, and has the owner and the type
pub record IsPlaceOf (rrsets : List ReceivedRrset) (place : RrsetPlace) : Type 0 where
  pub rrset : ReceivedRrset
  pub is_rrset : IsNumbered rrsets place.rrset rrset
  pub message : place.message ≡ rrset.message
  pub section : place.section ≡ rrset.section
  pub owner : place.owner ≡ rrset.owner
  pub rtype : place.rtype.0 ≡ rrset.rtype

-- A record of a zone's chain says so, of which lines before name the zone and say that the record's signature is good.
abbrev pub FollowsAsPart : Setting → List Line → Part → Type 0
FollowsAsPart setting before part =
    FollowsPart (λ k s. IsSignatureSaid before (record { rrset = k; signature = s })) setting.rrsets before part

-- the record can't be used, and a line before says that its RRset is signed
abbrev pub FollowsUnusable : Setting → List Line → UnusableDs → Type 0
FollowsUnusable setting before unusable =
    IsUnusableRecord setting.rrsets unusable × IsSaidSigned before unusable.number.rrset

-- Records of the zone that the case names say so, of which lines before say that their signatures are good; or a DS
-- RRset has no record that can be used, of which a line before says that it is signed.
abbrev pub FollowsAsCase : Setting → List Line → Cut → Type 0
FollowsAsCase setting before cut =
    FollowsCase (λ k s. IsSignatureSaid before (record { rrset = k; signature = s })) (IsSaidSigned before) setting.rrsets cut

-- ---- lines one after another

-- A line that says what is trusted, what is signed, a part of a proof, a case, a record that can't be used or where an
-- RRset stands follows from those before it. No rule speaks of proofs, of what may be hoped, of how long it holds, of
-- reasons, of signers that aren't trusted and of keys: such a line follows from any.
abbrev pub Follows : Setting → List Line → Line → Type 0
Follows setting before (line.Trusted keys) = FollowsTrusted setting before keys
Follows setting before (line.Signed signed) = FollowsSigned setting before signed
Follows setting before (line.Part part) = FollowsAsPart setting before part
Follows setting before (line.Case cut) = FollowsAsCase setting before cut
Follows setting before (line.Unusable unusable) = FollowsUnusable setting before unusable
Follows setting before (line.Rrset place) = IsPlaceOf setting.rrsets place
Follows setting before _ = Unit {0}

-- each of the lines follows from those before it
abbrev pub EachFollows : Setting → List Line → List Line → Type 0
EachFollows setting before [] = Unit {0}
EachFollows setting before (line ∷ lines) =
    Follows setting before line × EachFollows setting (before ++ line ∷ []) lines

-- ---- another moment

-- the same evidence, anchors and answers at another moment
abbrev pub at_moment : Setting → ℕ → Setting
at_moment setting moment = record {
  rrsets = setting.rrsets;
  anchors = setting.anchors;
  moment = moment;
  meaning = setting.meaning;
  todo = setting.todo;
}
