-- How the signatures of a DNSKEY RRset are looked up by their tags. No public clause cites this module.
use Rattle.std.specs.Prelude.{◌≡◌, ℕ, List, Contains}
use Rattle.dnsv_records.specs.Dnskey.KeyTag.{key_tag_of}
use Rattle.dnsv_verifier.specs.Admissible.{DnskeyRecord}
use Rattle.dnsv_zone_keys.specs.Keys.{IsNamed}
use Rattle.dnsv_zone_keys.specs.Keys.Index.{Placed}
use Rattle.dnsv_zone_faults.specs.declared.zone.dnskeys.tagged.OwnSignature.{OwnSignature}

abbrev pub tag_of_own : OwnSignature → ℕ
tag_of_own own = own.rrsig.now.key_tag.0

-- those with the tag
pub record AreTagged (owns : List OwnSignature) (tag : ℕ) (tagged : List OwnSignature) : Type 0 where
  pub among : (own : OwnSignature) → Contains tagged own → Contains owns own
  pub its : (own : OwnSignature) → Contains tagged own → tag_of_own own ≡ tag
  pub all : (own : OwnSignature) → Contains owns own → tag_of_own own ≡ tag → Contains tagged own

-- one of them names the key
pub record HasNaming (owns : List OwnSignature) (key : DnskeyRecord) : Type 0 where
  pub own : OwnSignature
  pub among : Contains owns own
  pub named : IsNamed own.rrsig.now key

-- one of them is good under the key with the place
pub record HasGood (owns : List OwnSignature) (place : ℕ) : Type 0 where
  pub own : OwnSignature
  pub among : Contains owns own
  pub good : Contains own.good place

-- one of those with its tag is
pub record IsSigning (owns : List OwnSignature) (placed : Placed) : Type 0 where
  pub own : OwnSignature
  pub among : Contains owns own
  pub tag : tag_of_own own ≡ key_tag_of placed.key.rdata
  pub good : Contains own.good placed.place
