-- Which keys the records of a DS RRset match (RFC 4034 5.2, RFC 4035 5.2).
pub mod DsReading
use Rattle.std.specs.Prelude.{◌≡◌, List, Some, Contains}
use Rattle.dnsv_names.specs.Name.{Labels, SameName}
use Rattle.dnsv_records.specs.Dnskey.KeyTag.{key_tag_of}
use Rattle.dnsv_records.specs.declared.ds.Ds.{Ds}
use Rattle.dnsv_digest.specs.Digest.{ds_digest_of}
use Rattle.dnsv_verifier.specs.Admissible.{DnskeyRecord}
use Rattle.dnsv_anchors.specs.Ds.{IsUsable}

-- the digest of a DS record is the key's, by a digest type that is supported (RFC 4034 5.1.4)
abbrev pub HasDigestOf : Ds → DnskeyRecord → Type 0
HasDigestOf ds key = ds_digest_of ds.digest_type.0 key.owner key.rdata ≡ Some ds.digest

-- A DS record of the owner matches a key: the key is the owner's, algorithm and key tag agree, and the digest is the
-- key's (RFC 4034 5.2, RFC 4035 5.2).
pub record IsMatch (owner : Labels) (ds : Ds) (key : DnskeyRecord) : Type 0 where
  pub same_owner : SameName owner key.owner
  pub algorithm : ds.algorithm.0 ≡ key.dnskey.algorithm.0
  pub key_tag : ds.key_tag.0 ≡ key_tag_of key.rdata
  pub digest : HasDigestOf ds key

-- a usable record of a DS RRset of the owner matches the key
pub record HasUsableMatch (owner : Labels) (records : List Ds) (key : DnskeyRecord) : Type 0 where
  pub ds : Ds
  pub among : Contains records ds
  pub usable : IsUsable records ds
  pub matching : IsMatch owner ds key
