-- The single ways that lists of ways are made of, for laws: each is one sentence of how a zone, a DNSKEY RRset, an RRset or a
-- signature may be trusted. The name that is asked for has an anchor at or above it.
use Rattle.std.specs.Prelude.{◌≡◌, ◌⊎◌, ◌&&◌, ℕ, List, [], ◌∷◌, Some, Bool, true, false, slice_get}
use Rattle.dnsv_lines.specs.declared.line.fault.zone.WhyZone.TheVariants as why
use Rattle.dnsv_mending.specs.Faults.{lines_under, self_lines, signature_lines, unnamed_lines}
use Rattle.dnsv_mending.specs.Keys.{fits, is_missing_by, is_served, signing, signings, unsigned_way, voucher_fault}
use Rattle.dnsv_mending.specs.Mend.{Mended, both, fault, following, is_none, nothing, telling, untold, with_fault}
use Rattle.dnsv_mending.specs.Zone.{has_none, is_vouched, is_zone_trusted, not_vouched}
use Rattle.dnsv_mending.specs.declared.facts.keys.DnskeyFacts.{DnskeyFacts}
use Rattle.dnsv_mending.specs.declared.facts.keys.HeldKey.{HeldKey}
use Rattle.dnsv_mending.specs.declared.facts.keys.SelfSignature.{SelfSignature}
use Rattle.dnsv_mending.specs.declared.facts.keys.VoucherFacts.{VoucherFacts}
use Rattle.dnsv_mending.specs.declared.facts.signature.NamedKey.{NamedKey}
use Rattle.dnsv_mending.specs.declared.facts.signature.RrsetFacts.{RrsetFacts}
use Rattle.dnsv_mending.specs.declared.facts.signature.SignatureFacts.{SignatureFacts}
use Rattle.dnsv_mending.specs.declared.facts.zone.DsFacts.{DsFacts}
use Rattle.dnsv_mending.specs.declared.facts.zone.ZoneFacts.{ZoneFacts}
use Rattle.dnsv_mending.specs.declared.facts.zone.ZoneKey.{ZoneKey}
use Rattle.dnsv_mending.specs.declared.price.Class.TheVariants as class
use Rattle.dnsv_mending.specs.declared.told.Told.TheVariants as told

-- one of the list
abbrev pub IsAmong : {X : Type 0} → X → List X → Type 0
IsAmong x [] = ⊥
IsAmong x (y ∷ ys) = (x ≡ y) ⊎ IsAmong x ys

-- what may be trusted or signed: the zone with so many labels, a DNSKEY RRset of it, by a key in it, an RRset, a signature;
-- and that something leads into the zone
pub data Thing : Type 0 where
  zone : ℕ → Thing
  lead : ℕ → Thing
  dnskey : ℕ → DnskeyFacts → Thing
  signs : DnskeyFacts → HeldKey → Thing
  rrset : RrsetFacts → Thing
  signature : SignatureFacts → Thing

-- the anchor or DS record isn't passed over for another of its group
abbrev pub IsCounted : DnskeyFacts → List VoucherFacts → VoucherFacts → Type 0
IsCounted r group v = (is_missing_by v.why && is_served group (signings r)) ≡ false

pub data IsWay (zones : List ZoneFacts) : Thing → Mended → Type 0 where
  zone_trusted : (n : ℕ) (z : ZoneFacts) → slice_get zones n ≡ Some z → is_zone_trusted z ≡ true → IsWay zones (zone n) nothing
  zone_unanchored : (n : ℕ) (z : ZoneFacts) → slice_get zones n ≡ Some z → z.is_anchored ≡ false → IsWay zones (zone n) (fault (told.Zone why.NoAnchor n))
  zone_by : (n : ℕ) (z : ZoneFacts) (r : DnskeyFacts) (m : Mended) → slice_get zones n ≡ Some z → IsAmong r z.dnskeys.items
      → IsWay zones (dnskey n r) m → IsWay zones (zone n) m
  zone_without : (n : ℕ) (z : ZoneFacts) (m : Mended) → slice_get zones n ≡ Some z → is_none z.dnskeys.items ≡ true → IsWay zones (lead n) m
      → IsWay zones (zone n) (following m (fault (told.Zone why.DnskeyMissing n)))
  lead_missing : (n : ℕ) (z : ZoneFacts) (m : Mended) → slice_get zones n ≡ Some z → has_none z ≡ true
      → IsWay zones (lead n) (following m (fault (told.Zone why.DsMissing n)))
  lead_anchor : (n : ℕ) (z : ZoneFacts) (v : VoucherFacts) → slice_get zones n ≡ Some z → IsAmong v z.anchors.items
      → IsWay zones (lead n) nothing
  lead_ds : (n : ℕ) (z : ZoneFacts) (ds : DsFacts) (m : Mended) → slice_get zones n ≡ Some z → IsAmong ds z.ds.items
      → IsWay zones (rrset ds.rrset) m → IsWay zones (lead n) m
  dnskey_trusted : (n : ℕ) (r : DnskeyFacts) → r.is_trusted ≡ true → IsWay zones (dnskey n r) nothing
  dnskey_unanchored : (n : ℕ) (z : ZoneFacts) (r : DnskeyFacts) → slice_get zones n ≡ Some z → z.is_anchored ≡ false
      → IsWay zones (dnskey n r) (fault (told.Zone why.NoAnchor n))
  dnskey_by_anchor : (n : ℕ) (z : ZoneFacts) (r : DnskeyFacts) (v : VoucherFacts) (k : HeldKey) (m : Mended) → slice_get zones n ≡ Some z
      → IsAmong v z.anchors.items → IsCounted r z.anchors.items v → IsAmong k r.keys.items → fits v (signing r k) ≡ true
      → IsWay zones (signs r k) m → IsWay zones (dnskey n r) (following nothing (with_fault (voucher_fault v) m))
  dnskey_by_ds : (n : ℕ) (z : ZoneFacts) (r : DnskeyFacts) (ds : DsFacts) (v : VoucherFacts) (k : HeldKey) (c m : Mended)
      → slice_get zones n ≡ Some z → IsAmong ds z.ds.items → IsWay zones (rrset ds.rrset) c
      → IsAmong v ds.records.items → IsCounted r ds.records.items v → IsAmong k r.keys.items → fits v (signing r k) ≡ true → IsWay zones (signs r k) m
      → IsWay zones (dnskey n r) (following c (with_fault (voucher_fault v) m))
  dnskey_unvouched : (n : ℕ) (z : ZoneFacts) (r : DnskeyFacts) (k : HeldKey) (c m : Mended) → slice_get zones n ≡ Some z
      → is_vouched z (signings r) ≡ false → IsWay zones (lead n) c → IsAmong k r.keys.items → IsWay zones (signs r k) m
      → IsWay zones (dnskey n r) (following c (with_fault (not_vouched z r) m))
  signs_none : (r : DnskeyFacts) (k : HeldKey) → is_none k.signatures.items ≡ true → IsWay zones (signs r k) (unsigned_way r k)
  signs_by : (r : DnskeyFacts) (k : HeldKey) (s : SelfSignature) → IsAmong s k.signatures.items
      → IsWay zones (signs r k) (telling (self_lines k s))
  rrset_unsigned : (r : RrsetFacts) (m : Mended) → is_none r.signatures.items ≡ true → IsWay zones (rrset r) (following m (fault (told.Unsigned r.number)))
  rrset_by : (r : RrsetFacts) (s : SignatureFacts) (m : Mended) → IsAmong s r.signatures.items → IsWay zones (signature s) m
      → IsWay zones (rrset r) m
  signature_signed : (s : SignatureFacts) → s.is_signed ≡ true → IsWay zones (signature s) nothing
  signature_of_another : (s : SignatureFacts) (m : Mended) → s.faults.signer ≡ true
      → IsWay zones (signature s) (following m (telling (signature_lines s)))
  signature_unnamed : (s : SignatureFacts) (z : ZoneFacts) (m : Mended) → slice_get zones s.signer ≡ Some z
      → is_none s.keys.items ≡ true → IsWay zones (zone s.signer) m
      → IsWay zones (signature s) (following m (telling (unnamed_lines s)))
  signature_held : (s : SignatureFacts) (z : ZoneFacts) (k : NamedKey) (key : ZoneKey) (h : ℕ) (r : DnskeyFacts) (t : Bool) (m : Mended)
      → slice_get zones s.signer ≡ Some z → IsAmong k s.keys.items → slice_get z.keys.items k.key ≡ Some key
      → IsAmong h key.holders.items → slice_get z.dnskeys.items h ≡ Some r → t ≡ is_zone_trusted z → IsWay zones (dnskey s.signer r) m
      → IsWay zones (signature s) (following m (telling (lines_under t s k)))
  signature_unheld : (s : SignatureFacts) (z : ZoneFacts) (k : NamedKey) (key : ZoneKey) (t : Bool) (m : Mended) → slice_get zones s.signer ≡ Some z
      → IsAmong k s.keys.items → slice_get z.keys.items k.key ≡ Some key → key.is_trusted ≡ false
      → t ≡ is_zone_trusted z → IsWay zones (zone s.signer) m
      → IsWay zones (signature s) (following m (both (telling (lines_under t s k)) (untold class.NotFitting)))
