-- The RDATA of DNSKEY (RFC 4034 2.1).
pub mod KeyTag
use Rattle.std.specs.Prelude.{◌≡◌, ℕ, ◌<◌, ◌≤◌, List, length, drop}
use Rattle.dnsv_records.specs.declared.error.Field.{Field}
use Rattle.dnsv_records.specs.declared.error.Field.TheVariants.{Head}
use Rattle.dnsv_records.specs.declared.dnskey.Dnskey.{Dnskey}
use Rattle.dnsv_names.specs.Octets.{number_at}

-- flags in 16 bits, protocol in 8, algorithm in 8, and the key
pub record IsDnskey (rdata : List ℕ) (dnskey : Dnskey) : Type 0 where
  pub head : 4 ≤ length rdata
  pub flags : dnskey.flags.0 ≡ number_at rdata 0 2
  pub protocol : dnskey.protocol ≡ number_at rdata 2 1
  pub algorithm : dnskey.algorithm.0 ≡ number_at rdata 3 1
  pub key : dnskey.key ≡ drop 4 rdata

-- the head is at fault where it isn't there
abbrev pub DnskeyFault : List ℕ → Field → Type 0
DnskeyFault rdata Head = length rdata < 4
DnskeyFault rdata _ = ⊥
