-- The RDATA of DS (RFC 4034 5.1).
use Rattle.std.specs.Prelude.{◌≡◌, ℕ, ◌<◌, ◌≤◌, List, length, drop}
use Rattle.dnsv_records.specs.declared.error.Field.{Field}
use Rattle.dnsv_records.specs.declared.error.Field.TheVariants.{Head}
use Rattle.dnsv_records.specs.declared.ds.Ds.{Ds}
use Rattle.dnsv_names.specs.Octets.{number_at}

-- key tag in 16 bits, algorithm in 8, digest type in 8, and the digest
pub record IsDs (rdata : List ℕ) (ds : Ds) : Type 0 where
  pub head : 4 ≤ length rdata
  pub key_tag : ds.key_tag.0 ≡ number_at rdata 0 2
  pub algorithm : ds.algorithm.0 ≡ number_at rdata 2 1
  pub digest_type : ds.digest_type.0 ≡ number_at rdata 3 1
  pub digest : ds.digest ≡ drop 4 rdata

-- the head is at fault where it isn't there
abbrev pub DsFault : List ℕ → Field → Type 0
DsFault rdata Head = length rdata < 4
DsFault rdata _ = ⊥
