-- Facts whose parts are where others say that they are: what a zone's keys, DNSKEY RRsets and signatures name is there.
use Rattle.std.specs.Prelude.{◌≡◌, ◌<◌, ℕ, List, Some, false, slice_get}
use Rattle.dnsv_mending.specs.Mend.{is_none}
use Rattle.dnsv_mending.specs.Ways.{IsAmong}
use Rattle.dnsv_mending.specs.declared.facts.keys.DnskeyFacts.{DnskeyFacts}
use Rattle.dnsv_mending.specs.declared.facts.signature.NamedKey.{NamedKey}
use Rattle.dnsv_mending.specs.declared.facts.signature.RrsetFacts.{RrsetFacts}
use Rattle.dnsv_mending.specs.declared.facts.signature.SignatureFacts.{SignatureFacts}
use Rattle.dnsv_mending.specs.declared.facts.zone.DsFacts.{DsFacts}
use Rattle.dnsv_mending.specs.declared.facts.zone.ZoneFacts.{ZoneFacts}
use Rattle.dnsv_mending.specs.declared.facts.zone.ZoneKey.{ZoneKey}

-- the signer of a signature that may be by a zone is one of the zones with fewer labels than n, and has the keys that it names
pub record IsSignerInPlace (zones : List ZoneFacts) (n : ℕ) (s : SignatureFacts) : Type 0 where
  pub z : ZoneFacts
  pub above : s.signer < n
  pub is : slice_get zones s.signer ≡ Some z
  pub keys : (k : NamedKey) → IsAmong k s.keys.items → (key : ZoneKey) × (slice_get z.keys.items k.key ≡ Some key)

abbrev pub IsRrsetInPlace : List ZoneFacts → ℕ → RrsetFacts → Type 0
IsRrsetInPlace zones n r = (s : SignatureFacts) → IsAmong s r.signatures.items → s.faults.signer ≡ false → IsSignerInPlace zones n s

-- one of the DNSKEY RRsets of the zone holds the key
pub record IsHeld (z : ZoneFacts) (key : ZoneKey) : Type 0 where
  pub h : ℕ
  pub r : DnskeyFacts
  pub holds : IsAmong h key.holders.items
  pub stands : slice_get z.dnskeys.items h ≡ Some r

-- DNSKEY RRsets have keys, keys are held, and DS RRsets are signed by zones above
pub record IsInPlace (zones : List ZoneFacts) : Type 0 where
  pub keyed : (n : ℕ) (z : ZoneFacts) (r : DnskeyFacts) → slice_get zones n ≡ Some z → IsAmong r z.dnskeys.items → is_none r.keys.items ≡ false
  pub held : (n : ℕ) (z : ZoneFacts) (key : ZoneKey) → slice_get zones n ≡ Some z → IsAmong key z.keys.items → IsHeld z key
  pub signed : (n : ℕ) (z : ZoneFacts) (ds : DsFacts) → slice_get zones n ≡ Some z → IsAmong ds z.ds.items → IsRrsetInPlace zones n ds.rrset
