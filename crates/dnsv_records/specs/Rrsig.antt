-- The RDATA of RRSIG (RFC 4034 3.1).
pub mod Time
use Rattle.std.specs.Prelude.{◌≡◌, ℕ, ◌<◌, ◌≤◌, List, ◌++◌, length, drop}
use Rattle.dnsv_names.specs.Name.{IsName, wire}
use Rattle.dnsv_records.specs.declared.error.Field.{Field}
use Rattle.dnsv_records.specs.declared.error.Field.TheVariants.{Head, Name}
use Rattle.dnsv_records.specs.declared.rrsig.Rrsig.{Rrsig}
use Rattle.dnsv_names.specs.Octets.{number_at}
use Rattle.dnsv_records.specs.Layout.{BeginsWithName}

-- type covered in 16 bits, algorithm in 8, labels in 8, original TTL, expiration and inception in 32 each, key tag
-- in 16, the signer's name, uncompressed, and the signature
pub record IsRrsig (rdata : List ℕ) (rrsig : Rrsig) : Type 0 where
  pub head : 18 ≤ length rdata
  pub type_covered : rrsig.type_covered.0 ≡ number_at rdata 0 2
  pub algorithm : rrsig.algorithm.0 ≡ number_at rdata 2 1
  pub labels : rrsig.labels ≡ number_at rdata 3 1
  pub original_ttl : rrsig.original_ttl.0 ≡ number_at rdata 4 4
  pub expiration : rrsig.expiration.0 ≡ number_at rdata 8 4
  pub inception : rrsig.inception.0 ≡ number_at rdata 12 4
  pub key_tag : rrsig.key_tag.0 ≡ number_at rdata 16 2
  pub name : IsName rrsig.signer
  pub rest : drop 18 rdata ≡ wire rrsig.signer ++ rrsig.signature

-- the first field that isn't there: the head, else the name
abbrev pub RrsigFault : List ℕ → Field → Type 0
RrsigFault rdata Head = length rdata < 18
RrsigFault rdata Name = (18 ≤ length rdata) × ¬ BeginsWithName (drop 18 rdata)
RrsigFault rdata _ = ⊥
