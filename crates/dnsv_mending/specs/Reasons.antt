-- Which mends tell a reason, and when what is kept as trusted is whole.
use Rattle.std.specs.Prelude.{◌≡◌, ◌⊎◌, ℕ, List, [], Some, None, Bool, true, false, slice_get}
use Rattle.std.specs.List.{list_any}
use Rattle.dnsv_mending.specs.Faults.{answer_lines, self_lines, signature_lines}
use Rattle.dnsv_mending.specs.Keys.{fits, signing}
use Rattle.dnsv_mending.specs.Mend.{Mended, is_none}
use Rattle.dnsv_mending.specs.Ways.{IsAmong}
use Rattle.dnsv_mending.specs.Zone.{is_zone_trusted}
use Rattle.dnsv_mending.specs.declared.facts.keys.DnskeyFacts.{DnskeyFacts}
use Rattle.dnsv_mending.specs.declared.facts.keys.HeldKey.{HeldKey}
use Rattle.dnsv_mending.specs.declared.facts.keys.SelfSignature.{SelfSignature}
use Rattle.dnsv_mending.specs.declared.facts.keys.VoucherFacts.{VoucherFacts}
use Rattle.dnsv_mending.specs.declared.facts.signature.NamedKey.{NamedKey}
use Rattle.dnsv_mending.specs.declared.facts.signature.RrsetFacts.{RrsetFacts}
use Rattle.dnsv_mending.specs.declared.facts.signature.SignatureFacts.{SignatureFacts}
use Rattle.dnsv_mending.specs.declared.facts.zone.DsFacts.{DsFacts}
use Rattle.dnsv_mending.specs.declared.facts.zone.ZoneFacts.{ZoneFacts}
use Rattle.dnsv_mending.specs.declared.facts.zone.ZoneKey.{ZoneKey}
use Rattle.dnsv_mending.specs.declared.told.Told.{Told}
use Rattle.dnsv_mending.specs.declared.told.Told.TheVariants as told

-- a line that says what fails, and not only what follows from that
abbrev pub is_reason : Told → Bool
is_reason (told.Zone why labels) = true
is_reason (told.Entry why n) = true
is_reason (told.NotSelfSigned key) = true
is_reason (told.NotVouched rrset) = true
is_reason (told.Unsigned rrset) = true
is_reason (told.Signature why n) = true
is_reason (told.Follows n) = false

-- one of its lines does
abbrev pub HasReason : Mended → Type 0
HasReason m = (list_any is_reason m.chain ≡ true) ⊎ (list_any is_reason m.own ≡ true)

-- a key signs its RRset: nothing is wrong with one of its signatures (RFC 4035 5.3)
abbrev pub IsSelfSigned : HeldKey → Type 0
IsSelfSigned k = (s : SelfSignature) × IsAmong s k.signatures.items × (self_lines k s ≡ [])

-- a signature of the RRset is kept as good under a trusted key
abbrev pub IsSignedRrset : RrsetFacts → Type 0
IsSignedRrset r = (s : SignatureFacts) × IsAmong s r.signatures.items × (s.is_signed ≡ true)

-- A signature with which nothing is wrong is kept as signed where a trusted RRset holds the key under which it is good. Where
-- nothing is wrong with it and it names no zone key, its signer has no keys, so it isn't trusted.
pub record IsClosedSignature (zones : List ZoneFacts) (s : SignatureFacts) : Type 0 where
  pub named : (z : ZoneFacts) (k : NamedKey) (key : ZoneKey) → slice_get zones s.signer ≡ Some z → IsAmong k s.keys.items
      → slice_get z.keys.items k.key ≡ Some key → key.is_trusted ≡ true → signature_lines s ≡ [] → answer_lines s.number k.answer ≡ []
      → s.is_signed ≡ true
  pub unnamed : (z : ZoneFacts) → slice_get zones s.signer ≡ Some z → is_none s.keys.items ≡ true → signature_lines s ≡ []
      → is_zone_trusted z ≡ false

abbrev pub IsClosedRrset : List ZoneFacts → RrsetFacts → Type 0
IsClosedRrset zones r = (s : SignatureFacts) → IsAmong s r.signatures.items → IsClosedSignature zones s

-- What is kept as trusted or signed is whole: what follows from it by one rule of trust is kept too (RFC 4035 5). A DNSKEY
-- RRset is trusted where a key in it signs it that an anchor matches, or a record of a signed DS RRset.
pub record IsClosed (zones : List ZoneFacts) : Type 0 where
  pub signed : (n : ℕ) (z : ZoneFacts) (ds : DsFacts) → slice_get zones n ≡ Some z → IsAmong ds z.ds.items → IsClosedRrset zones ds.rrset
  pub anchored : (n : ℕ) (z : ZoneFacts) (r : DnskeyFacts) (v : VoucherFacts) (k : HeldKey) → slice_get zones n ≡ Some z
      → IsAmong r z.dnskeys.items → IsAmong v z.anchors.items → v.why ≡ None → IsAmong k r.keys.items → fits v (signing r k) ≡ true
      → IsSelfSigned k → r.is_trusted ≡ true
  pub delegated : (n : ℕ) (z : ZoneFacts) (r : DnskeyFacts) (ds : DsFacts) (v : VoucherFacts) (k : HeldKey) → slice_get zones n ≡ Some z
      → IsAmong r z.dnskeys.items → IsAmong ds z.ds.items → IsSignedRrset ds.rrset → IsAmong v ds.records.items → v.why ≡ None
      → IsAmong k r.keys.items → fits v (signing r k) ≡ true → IsSelfSigned k → r.is_trusted ≡ true
  pub held : (n : ℕ) (z : ZoneFacts) (i h : ℕ) (key : ZoneKey) (r : DnskeyFacts) → slice_get zones n ≡ Some z
      → slice_get z.keys.items i ≡ Some key → IsAmong h key.holders.items → slice_get z.dnskeys.items h ≡ Some r → r.is_trusted ≡ true
      → key.is_trusted ≡ true
