-- What would be trusted or signed, if what some lines say were mended. Each rule is one of trust, but that where something
-- fails the line which says so is granted (RFC 4035 5). What is granted of a signature is that it is good: a verifier may
-- never have been asked.
use Rattle.std.specs.Prelude.{◌≡◌, ℕ, List, Option, Some, None, true, slice_get}
use Rattle.std.specs.List.{AllByRecursion}
use Rattle.dnsv_lines.specs.declared.line.fault.zone.WhyZone.TheVariants as why
use Rattle.dnsv_mending.specs.Faults.{answer_lines, lines_under, or_else, self_lines, signature_lines}
use Rattle.dnsv_mending.specs.Keys.{fits, signing, voucher_fault}
use Rattle.dnsv_mending.specs.Mend.{is_none}
use Rattle.dnsv_mending.specs.Ways.{IsAmong, Thing}
use Rattle.dnsv_mending.specs.Ways.Thing.{zone, lead, dnskey, signs, rrset, signature}
use Rattle.dnsv_mending.specs.Zone.{is_zone_trusted, not_vouched}
use Rattle.dnsv_mending.specs.declared.facts.keys.DnskeyFacts.{DnskeyFacts}
use Rattle.dnsv_mending.specs.declared.facts.keys.HeldKey.{HeldKey}
use Rattle.dnsv_mending.specs.declared.facts.keys.SelfSignature.{SelfSignature}
use Rattle.dnsv_mending.specs.declared.facts.keys.VoucherFacts.{VoucherFacts}
use Rattle.dnsv_mending.specs.declared.facts.signature.NamedKey.{NamedKey}
use Rattle.dnsv_mending.specs.declared.facts.signature.RrsetFacts.{RrsetFacts}
use Rattle.dnsv_mending.specs.declared.facts.signature.SignatureFacts.{SignatureFacts}
use Rattle.dnsv_mending.specs.declared.facts.zone.DsFacts.{DsFacts}
use Rattle.dnsv_mending.specs.declared.facts.zone.ZoneFacts.{ZoneFacts}
use Rattle.dnsv_mending.specs.declared.facts.zone.ZoneKey.{ZoneKey}
use Rattle.dnsv_mending.specs.declared.told.Told.{Told}
use Rattle.dnsv_mending.specs.declared.told.Told.TheVariants as told

-- each of the lines is granted
abbrev pub AreGranted : List Told → List Told → Type 0
AreGranted granted lines = AllByRecursion (λ line. IsAmong line granted) lines

-- a fault that may not be there is granted
abbrev pub IsFaultGranted : List Told → Option Told → Type 0
IsFaultGranted granted None = Unit {0}
IsFaultGranted granted (Some line) = IsAmong line granted

pub data IsGranted (zones : List ZoneFacts) (granted : List Told) : Thing → Type 0 where
  -- a zone: by one of its DNSKEY RRsets
  zone_has : (n : ℕ) (z : ZoneFacts) → slice_get zones n ≡ Some z → is_zone_trusted z ≡ true → IsGranted zones granted (zone n)
  zone_has_set : (n : ℕ) (z : ZoneFacts) (r : DnskeyFacts) → slice_get zones n ≡ Some z → IsAmong r z.dnskeys.items
      → IsGranted zones granted (dnskey n r) → IsGranted zones granted (zone n)
  zone_anchored : (n : ℕ) → IsAmong (told.Zone why.NoAnchor n) granted → IsGranted zones granted (zone n)
  zone_given : (n : ℕ) → IsAmong (told.Zone why.DnskeyMissing n) granted → IsGranted zones granted (lead n) → IsGranted zones granted (zone n)
  -- that something leads into a zone: an anchor, or a signed DS RRset
  led_anew : (n : ℕ) → IsAmong (told.Zone why.DsMissing n) granted → IsGranted zones granted (lead n)
  led_by_anchor : (n : ℕ) (z : ZoneFacts) (v : VoucherFacts) → slice_get zones n ≡ Some z → IsAmong v z.anchors.items
      → IsGranted zones granted (lead n)
  led_by_ds : (n : ℕ) (z : ZoneFacts) (ds : DsFacts) → slice_get zones n ≡ Some z → IsAmong ds z.ds.items
      → IsGranted zones granted (rrset ds.rrset) → IsGranted zones granted (lead n)
  -- a DNSKEY RRset: a key in it signs it that an anchor fits, or a record of a signed DS RRset
  keys_trusted : (n : ℕ) (r : DnskeyFacts) → r.is_trusted ≡ true → IsGranted zones granted (dnskey n r)
  keys_anchored : (n : ℕ) (r : DnskeyFacts) → IsAmong (told.Zone why.NoAnchor n) granted → IsGranted zones granted (dnskey n r)
  keys_by_anchor : (n : ℕ) (z : ZoneFacts) (r : DnskeyFacts) (v : VoucherFacts) (k : HeldKey) → slice_get zones n ≡ Some z
      → IsAmong v z.anchors.items → IsFaultGranted granted (voucher_fault v) → IsAmong k r.keys.items → fits v (signing r k) ≡ true
      → IsGranted zones granted (signs r k) → IsGranted zones granted (dnskey n r)
  keys_by_ds : (n : ℕ) (z : ZoneFacts) (r : DnskeyFacts) (ds : DsFacts) (v : VoucherFacts) (k : HeldKey) → slice_get zones n ≡ Some z
      → IsAmong ds z.ds.items → IsGranted zones granted (rrset ds.rrset) → IsAmong v ds.records.items
      → IsFaultGranted granted (voucher_fault v) → IsAmong k r.keys.items → fits v (signing r k) ≡ true
      → IsGranted zones granted (signs r k) → IsGranted zones granted (dnskey n r)
  keys_vouched : (n : ℕ) (z : ZoneFacts) (r : DnskeyFacts) (k : HeldKey) → slice_get zones n ≡ Some z → IsGranted zones granted (lead n)
      → IsFaultGranted granted (not_vouched z r) → IsAmong k r.keys.items → IsGranted zones granted (signs r k)
      → IsGranted zones granted (dnskey n r)
  -- that a key signs its RRset
  key_signs : (r : DnskeyFacts) (k : HeldKey) → IsAmong (told.NotSelfSigned k.number) granted → IsGranted zones granted (signs r k)
  keys_signed : (r : DnskeyFacts) (k : HeldKey) → IsAmong (told.Unsigned r.number) granted → IsGranted zones granted (signs r k)
  key_signs_by : (r : DnskeyFacts) (k : HeldKey) (s : SelfSignature) → IsAmong s k.signatures.items → AreGranted granted (self_lines k s)
      → IsGranted zones granted (signs r k)
  -- an RRset
  signed_anew : (r : RrsetFacts) → IsAmong (told.Unsigned r.number) granted → IsGranted zones granted (rrset r)
  signed_by : (r : RrsetFacts) (s : SignatureFacts) → IsAmong s r.signatures.items → IsGranted zones granted (signature s)
      → IsGranted zones granted (rrset r)
  -- a signature
  kept_good : (s : SignatureFacts) → s.is_signed ≡ true → IsGranted zones granted (signature s)
  good_by_zone : (s : SignatureFacts) → s.faults.signer ≡ true → AreGranted granted (signature_lines s) → IsGranted zones granted (signature s)
  good_unnamed : (s : SignatureFacts) (z : ZoneFacts) → slice_get zones s.signer ≡ Some z → is_none s.keys.items ≡ true
      → AreGranted granted (signature_lines s) → IsGranted zones granted (zone s.signer) → IsGranted zones granted (signature s)
  good_under : (s : SignatureFacts) (z : ZoneFacts) (k : NamedKey) (key : ZoneKey) (h : ℕ) (r : DnskeyFacts) → slice_get zones s.signer ≡ Some z
      → IsAmong k s.keys.items → slice_get z.keys.items k.key ≡ Some key → IsAmong h key.holders.items → slice_get z.dnskeys.items h ≡ Some r
      → AreGranted granted (or_else (signature_lines s) (answer_lines s.number k.answer)) → IsGranted zones granted (dnskey s.signer r)
      → IsGranted zones granted (signature s)
  -- its zone has another key than it names: some line speaks of the signature
  good_anew : (s : SignatureFacts) (z : ZoneFacts) (k : NamedKey) → slice_get zones s.signer ≡ Some z → IsAmong k s.keys.items
      → AreGranted granted (lines_under (is_zone_trusted z) s k) → IsGranted zones granted (zone s.signer) → IsGranted zones granted (signature s)
