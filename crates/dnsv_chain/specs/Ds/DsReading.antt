-- How the records of DS RRsets that match a key are found. No public clause cites this module.
use Rattle.std.specs.Prelude.{◌≡◌, ℕ, List, Contains}
use Rattle.std.specs.List.{AllZip}
use Rattle.dnsv_names.specs.Name.{Labels, SameName}
use Rattle.dnsv_records.specs.Dnskey.KeyTag.{key_tag_of}
use Rattle.dnsv_records.specs.Ds.{IsDs}
use Rattle.dnsv_records.specs.declared.ds.Ds.{Ds}
use Rattle.dnsv_canonical.specs.Rrsets.{ReceivedRrset}
use Rattle.dnsv_verifier.specs.Admissible.{DnskeyRecord}
use Rattle.dnsv_anchors.specs.Ds.DsReading.{Leads}
use Rattle.dnsv_chain.specs.Ds.{IsMatch}

-- a record has the digest type, and matches the key
pub record HasLeadingMatch (owner : Labels) (records : List Ds) (number : ℕ) (key : DnskeyRecord) : Type 0 where
  pub ds : Ds
  pub among : Contains records ds
  pub is : ds.digest_type.0 ≡ number
  pub matching : IsMatch owner ds key

-- the record has the key's algorithm and tag
pub record NamesKey (ds : Ds) (key : DnskeyRecord) : Type 0 where
  pub algorithm : ds.algorithm.0 ≡ key.dnskey.algorithm.0
  pub key_tag : ds.key_tag.0 ≡ key_tag_of key.rdata

-- one of the records has the digest type, and the key's algorithm and tag
pub record HasNamed (records : List Ds) (number : ℕ) (key : DnskeyRecord) : Type 0 where
  pub ds : Ds
  pub among : Contains records ds
  pub is : ds.digest_type.0 ≡ number
  pub names : NamesKey ds key

-- such a record has the digest
pub record HasNamedDigest (records : List Ds) (number : ℕ) (key : DnskeyRecord) (digest : List ℕ) : Type 0 where
  pub ds : Ds
  pub among : Contains records ds
  pub is : ds.digest_type.0 ≡ number
  pub names : NamesKey ds key
  pub digest_is : ds.digest ≡ digest

-- ---- the DS RRsets of an owner, a digest type at a time

-- one of the RRsets is such
pub record HasSome (Is : ReceivedRrset → Type 0) (rrsets : List ReceivedRrset) : Type 0 where
  pub rrset : ReceivedRrset
  pub among : Contains rrsets rrset
  pub is : Is rrset

-- a record of the DS RRset has the digest type, and the key's algorithm and tag
pub record NamesByType (ds : ReceivedRrset) (number : ℕ) (key : DnskeyRecord) : Type 0 where
  pub rtype : ds.rtype ≡ 43
  pub records : List Ds
  pub read : AllZip IsDs ds.rdata records
  pub named : HasNamed records number key

-- the digest type leads in the DS RRset, and a record that has it matches the key
pub record DelegatesByType (ds : ReceivedRrset) (number : ℕ) (key : DnskeyRecord) : Type 0 where
  pub rtype : ds.rtype ≡ 43
  pub records : List Ds
  pub read : AllZip IsDs ds.rdata records
  pub leads : Leads records number
  pub matching : HasLeadingMatch ds.owner records number key

-- the same by the digest
pub record DelegatesByDigest (ds : ReceivedRrset) (number : ℕ) (key : DnskeyRecord) (digest : List ℕ) : Type 0 where
  pub rtype : ds.rtype ≡ 43
  pub owner : SameName ds.owner key.owner
  pub records : List Ds
  pub read : AllZip IsDs ds.rdata records
  pub leads : Leads records number
  pub named : HasNamedDigest records number key digest
