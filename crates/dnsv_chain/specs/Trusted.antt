-- Which DNSKEY RRsets of the evidence are trusted, and which signatures that makes good (RFC 4035 5).
use Rattle.std.specs.Prelude.{◌≡◌, ℕ, List, Contains}
use Rattle.std.specs.List.{AllZip}
use Rattle.dnsv_names.specs.Name.{Labels, SameName}
use Rattle.dnsv_records.specs.Dnskey.{IsDnskey}
use Rattle.dnsv_records.specs.Ds.{IsDs}
use Rattle.dnsv_records.specs.Rrsig.{IsRrsig}
use Rattle.dnsv_records.specs.declared.ds.Ds.{Ds}
use Rattle.dnsv_records.specs.declared.rrsig.Rrsig.{Rrsig}
use Rattle.dnsv_canonical.specs.Rrsets.{IsNumbered, ReceivedRrset}
use Rattle.dnsv_verifier.specs.Admissible.{DnskeyRecord, IsGood, IsSignatureOf}
use Rattle.dnsv_verifier.specs.declared.answer.Answer.{Answer}
use Rattle.dnsv_verifier.specs.declared.entry.Entry.{Entry}
use Rattle.dnsv_chain.specs.Anchor.{HasAnchorMatch}
use Rattle.dnsv_chain.specs.Ds.{HasUsableMatch}
use Rattle.dnsv_anchors.specs.declared.anchor.Anchor.{Anchor}

-- ---- the links

-- the key is a record of the DNSKEY RRset
pub record IsKeyOf (set : ReceivedRrset) (key : DnskeyRecord) : Type 0 where
  pub rtype : set.rtype ≡ 48
  pub owner : key.owner ≡ set.owner
  pub among : Contains set.rdata key.rdata
  pub is : IsDnskey key.rdata key.dnskey

-- the RRset has a signature that is good under the key
pub record IsSignedUnder (meaning : Entry → Answer) (moment : ℕ) (rrset : ReceivedRrset) (key : DnskeyRecord)
    : Type 0 where
  pub rrsig : Rrsig
  pub its : IsSignatureOf rrset rrsig
  pub good : IsGood meaning moment rrset rrsig key

-- the key signs the DNSKEY RRset that it stands in
pub record SignsItsSet (meaning : Entry → Answer) (moment : ℕ) (set : ReceivedRrset) (key : DnskeyRecord)
    : Type 0 where
  pub stands : IsKeyOf set key
  pub signed : IsSignedUnder meaning moment set key

-- a usable record of the DS RRset matches the key, which has the same owner (RFC 4035 5.2, RFC 4509 3)
pub record DelegatesTo (ds : ReceivedRrset) (key : DnskeyRecord) : Type 0 where
  pub rtype : ds.rtype ≡ 43
  pub records : List Ds
  pub read : AllZip IsDs ds.rdata records
  pub usable : HasUsableMatch ds.owner records key

-- ---- the chain of trust

-- Which DNSKEY RRsets of the evidence are trusted. One and the same key of the set signs it and matches an anchor, or
-- signs it and matches a usable record of a DS RRset that has a signature good under a key of a trusted set: that of
-- the signer, which for DS is a proper ancestor (RFC 4035 5, 5.2).
pub data IsTrusted (meaning : Entry → Answer) (moment : ℕ) (rrsets : List ReceivedRrset) (anchors : List Anchor)
    : ReceivedRrset → Type 0 where
  anchored : {set : ReceivedRrset} {key : DnskeyRecord}
      → Contains rrsets set
      → SignsItsSet meaning moment set key
      → HasAnchorMatch anchors key
      → IsTrusted meaning moment rrsets anchors set
  delegated : {parent ds set : ReceivedRrset} {above key : DnskeyRecord}
      → IsTrusted meaning moment rrsets anchors parent
      → IsKeyOf parent above
      → Contains rrsets ds
      → IsSignedUnder meaning moment ds above
      → DelegatesTo ds key
      → Contains rrsets set
      → SignsItsSet meaning moment set key
      → IsTrusted meaning moment rrsets anchors set

-- The RDATA is that of a key of a trusted set at the zone. A key is a value: that a set which isn't trusted has it too
-- makes no difference.
pub record IsTrustedKey
    (meaning : Entry → Answer) (moment : ℕ) (rrsets : List ReceivedRrset) (anchors : List Anchor)
    (zone : Labels) (rdata : List ℕ) : Type 0 where
  pub set : ReceivedRrset
  pub trusted : IsTrusted meaning moment rrsets anchors set
  pub owner : SameName set.owner zone
  pub among : Contains set.rdata rdata

-- ---- what is signed by it

-- the signature of the RRset is good under a key of a trusted set, which is one of the signer
pub record IsGoodByTrust
    (meaning : Entry → Answer) (moment : ℕ) (rrsets : List ReceivedRrset) (anchors : List Anchor)
    (rrset : ReceivedRrset) (rrsig : Rrsig) : Type 0 where
  pub set : ReceivedRrset
  pub trusted : IsTrusted meaning moment rrsets anchors set
  pub key : DnskeyRecord
  pub stands : IsKeyOf set key
  pub good : IsGood meaning moment rrset rrsig key

-- signature s of RRset k is good under a key of a trusted set of its signer; both are numbered from 1 on
pub record IsSecured
    (meaning : Entry → Answer) (moment : ℕ) (rrsets : List ReceivedRrset) (anchors : List Anchor) (k s : ℕ)
    : Type 0 where
  pub rrset : ReceivedRrset
  pub numbered : IsNumbered rrsets k rrset
  pub rdata : List ℕ
  pub signature : IsNumbered rrset.signatures s rdata
  pub rrsig : Rrsig
  pub is : IsRrsig rdata rrsig
  pub good : IsGoodByTrust meaning moment rrsets anchors rrset rrsig
