-- When the facts of two zones are alike: all that they say is equal. Only where their lists lie in memory may differ.
use Rattle.std.specs.Prelude.{◌≡◌, List}
use Rattle.std.specs.List.{AllZip}
use Rattle.dnsv_mending.specs.declared.facts.keys.DnskeyFacts.{DnskeyFacts}
use Rattle.dnsv_mending.specs.declared.facts.keys.HeldKey.{HeldKey}
use Rattle.dnsv_mending.specs.declared.facts.keys.VoucherFacts.{VoucherFacts}
use Rattle.dnsv_mending.specs.declared.facts.signature.RrsetFacts.{RrsetFacts}
use Rattle.dnsv_mending.specs.declared.facts.signature.SignatureFacts.{SignatureFacts}
use Rattle.dnsv_mending.specs.declared.facts.zone.DsFacts.{DsFacts}
use Rattle.dnsv_mending.specs.declared.facts.zone.ZoneFacts.{ZoneFacts}
use Rattle.dnsv_mending.specs.declared.facts.zone.ZoneKey.{ZoneKey}

-- ---- RRsets

pub record AreAlikeSignatures (a b : SignatureFacts) : Type 0 where
  pub number : a.number ≡ b.number
  pub signer : a.signer ≡ b.signer
  pub is_signed : a.is_signed ≡ b.is_signed
  pub faults : a.faults ≡ b.faults
  pub key_missing : a.key_missing ≡ b.key_missing
  pub not_zone_key : a.not_zone_key ≡ b.not_zone_key
  pub keys : a.keys.items ≡ b.keys.items

pub record AreAlikeRrsets (a b : RrsetFacts) : Type 0 where
  pub number : a.number ≡ b.number
  pub signatures : AllZip AreAlikeSignatures a.signatures.items b.signatures.items

-- ---- DNSKEY RRsets

pub record AreAlikeHeldKeys (a b : HeldKey) : Type 0 where
  pub number : a.number ≡ b.number
  pub key : a.key ≡ b.key
  pub name : a.name ≡ b.name
  pub is_zone_key : a.is_zone_key ≡ b.is_zone_key
  pub is_named : a.is_named ≡ b.is_named
  pub signatures : a.signatures.items ≡ b.signatures.items

pub record AreAlikeDnskeys (a b : DnskeyFacts) : Type 0 where
  pub number : a.number ≡ b.number
  pub is_trusted : a.is_trusted ≡ b.is_trusted
  pub has_signatures : a.has_signatures ≡ b.has_signatures
  pub keys : AllZip AreAlikeHeldKeys a.keys.items b.keys.items

-- ---- what vouches for keys

pub record AreAlikeVouchers (a b : VoucherFacts) : Type 0 where
  pub number : a.number ≡ b.number
  pub why : a.why ≡ b.why
  pub name : a.name ≡ b.name
  pub matches : a.matches.items ≡ b.matches.items

pub record AreAlikeDs (a b : DsFacts) : Type 0 where
  pub rrset : AreAlikeRrsets a.rrset b.rrset
  pub records : AllZip AreAlikeVouchers a.records.items b.records.items

-- ---- zones

pub record AreAlikeKeys (a b : ZoneKey) : Type 0 where
  pub is_trusted : a.is_trusted ≡ b.is_trusted
  pub holders : a.holders.items ≡ b.holders.items

pub record AreAlikeZones (a b : ZoneFacts) : Type 0 where
  pub is_known : a.is_known ≡ b.is_known
  pub is_anchored : a.is_anchored ≡ b.is_anchored
  pub keys : AllZip AreAlikeKeys a.keys.items b.keys.items
  pub dnskeys : AllZip AreAlikeDnskeys a.dnskeys.items b.dnskeys.items
  pub anchors : AllZip AreAlikeVouchers a.anchors.items b.anchors.items
  pub ds : AllZip AreAlikeDs a.ds.items b.ds.items
