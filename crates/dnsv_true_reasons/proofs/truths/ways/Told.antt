-- What facts of zones and of signatures have told.
use Rattle.std.proofs.Common.{◌≡◌, ℕ, true, false, List, [], Some, slice_get}
use Rattle.dnsv_lines.specs.declared.line.fault.signature.WhySignature.TheVariants as signature_why
use Rattle.dnsv_lines.specs.declared.line.fault.zone.WhyEntry.{WhyEntry}
use Rattle.dnsv_lines.specs.declared.line.fault.zone.WhyZone.TheVariants as zone_why
use Rattle.dnsv_mending.specs.Faults.{answer_lines, fault_lines, signature_lines}
use Rattle.dnsv_mending.specs.Keys.{signings}
use Rattle.dnsv_mending.specs.Mend.{is_none}
use Rattle.dnsv_mending.specs.Ways.{IsAmong}
use Rattle.dnsv_mending.specs.Zone.{has_none, is_vouched, is_zone_trusted}
use Rattle.dnsv_mending.specs.declared.facts.keys.DnskeyFacts.{DnskeyFacts}
use Rattle.dnsv_mending.specs.declared.facts.keys.HeldKey.{HeldKey}
use Rattle.dnsv_mending.specs.declared.facts.keys.SelfSignature.{SelfSignature}
use Rattle.dnsv_mending.specs.declared.facts.keys.VoucherFacts.{VoucherFacts}
use Rattle.dnsv_mending.specs.declared.facts.signature.KeyAnswer.TheVariants as answer
use Rattle.dnsv_mending.specs.declared.facts.signature.NamedKey.{NamedKey}
use Rattle.dnsv_mending.specs.declared.facts.signature.RrsetFacts.{RrsetFacts}
use Rattle.dnsv_mending.specs.declared.facts.signature.SignatureFacts.{SignatureFacts}
use Rattle.dnsv_mending.specs.declared.facts.zone.DsFacts.{DsFacts}
use Rattle.dnsv_mending.specs.declared.facts.zone.ZoneFacts.{ZoneFacts}
use Rattle.dnsv_mending.specs.declared.told.Told.{Told}
use Rattle.dnsv_mending.specs.declared.told.Told.TheVariants as told

-- ---- a signature

-- All that is wrong with it; where nothing is, what a verifier says under a key that it names; where that is nothing either, that
-- its signer is trusted, and the key in no trusted RRset, or what it follows from.
pub data IsOfSignature (zones : List ZoneFacts) (s : SignatureFacts) : Told → Type 0 where
  wrong : (t : Told) → IsAmong t (signature_lines s) → IsOfSignature zones s t
  answered : (k : NamedKey) (t : Told) → IsAmong k s.keys.items → signature_lines s ≡ [] → IsAmong t (answer_lines s.number k.answer)
      → IsOfSignature zones s t
  untrusted : (z : ZoneFacts) (k : NamedKey) → slice_get zones s.signer ≡ Some z → is_zone_trusted z ≡ true → s.is_signed ≡ false
      → s.faults.signer ≡ false → signature_lines s ≡ [] → IsAmong k s.keys.items → k.answer ≡ answer.Good
      → IsOfSignature zones s (told.Signature signature_why.KeyUntrusted s.number)
  unnamed : (z : ZoneFacts) → slice_get zones s.signer ≡ Some z → is_zone_trusted z ≡ true → s.faults.signer ≡ false
      → signature_lines s ≡ [] → is_none s.keys.items ≡ true → IsOfSignature zones s (told.Signature signature_why.KeyUntrusted s.number)
  follows : IsOfSignature zones s (told.Follows s.number)

-- ---- an RRset: by its signatures, or that it has none

pub data IsOfRrset (zones : List ZoneFacts) (r : RrsetFacts) : Told → Type 0 where
  unsigned : is_none r.signatures.items ≡ true → IsOfRrset zones r (told.Unsigned r.number)
  by_signature : (s : SignatureFacts) (t : Told) → IsAmong s r.signatures.items → IsOfSignature zones s t → IsOfRrset zones r t

-- ---- a key in a DNSKEY RRset

pub data IsOfKey (r : DnskeyFacts) (k : HeldKey) : Told → Type 0 where
  not_self_signed : is_none k.signatures.items ≡ true → r.has_signatures ≡ true → IsOfKey r k (told.NotSelfSigned k.number)
  unsigned_set : r.has_signatures ≡ false → IsOfKey r k (told.Unsigned r.number)
  self_wrong : (s : SelfSignature) (t : Told) → IsAmong s k.signatures.items → IsAmong t (fault_lines s.number s.faults) → IsOfKey r k t
  self_no_zone_key : (s : SelfSignature) → IsAmong s k.signatures.items → k.is_zone_key ≡ false
      → IsOfKey r k (told.Signature signature_why.NotZoneKey s.number)
  self_answered : (s : SelfSignature) (t : Told) → IsAmong s k.signatures.items → fault_lines s.number s.faults ≡ [] → k.is_zone_key ≡ true
      → IsAmong t (answer_lines s.number s.answer) → IsOfKey r k t

-- ---- a zone with so many labels

pub data IsOfZone (zones : List ZoneFacts) (n : ℕ) (z : ZoneFacts) : Told → Type 0 where
  no_anchor : z.is_anchored ≡ false → IsOfZone zones n z (told.Zone zone_why.NoAnchor n)
  no_dnskey : is_none z.dnskeys.items ≡ true → IsOfZone zones n z (told.Zone zone_why.DnskeyMissing n)
  no_ds : has_none z ≡ true → IsOfZone zones n z (told.Zone zone_why.DsMissing n)
  of_anchor : (v : VoucherFacts) (w : WhyEntry) → IsAmong v z.anchors.items → v.why ≡ Some w → IsOfZone zones n z (told.Entry w v.number)
  of_record : (ds : DsFacts) (v : VoucherFacts) (w : WhyEntry) → IsAmong ds z.ds.items → IsAmong v ds.records.items → v.why ≡ Some w
      → IsOfZone zones n z (told.Entry w v.number)
  of_ds : (ds : DsFacts) (t : Told) → IsAmong ds z.ds.items → IsOfRrset zones ds.rrset t → IsOfZone zones n z t
  without_voucher : (r : DnskeyFacts) → IsAmong r z.dnskeys.items → has_none z ≡ false → is_vouched z (signings r) ≡ false
      → IsOfZone zones n z (told.NotVouched r.number)
  of_key : (r : DnskeyFacts) (k : HeldKey) (t : Told) → IsAmong r z.dnskeys.items → IsAmong k r.keys.items → IsOfKey r k t
      → IsOfZone zones n z t

-- one of the zones
pub record IsOfZones (zones : List ZoneFacts) (t : Told) : Type 0 where
  pub n : ℕ
  pub z : ZoneFacts
  pub at : slice_get zones n ≡ Some z
  pub of : IsOfZone zones n z t
