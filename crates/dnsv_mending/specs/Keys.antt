-- The ways on which a DNSKEY RRset is trusted (RFC 4035 5).
use Rattle.std.specs.Prelude.{ℕ, List, [], ◌∷◌, ◌&&◌, Option, Some, None, Bool, true, false, if◌then◌else◌, map, flat_map, nat_eq}
use Rattle.std.specs.List.{list_any}
use Rattle.std.specs.Option.{option_map}
use Rattle.dnsv_lines.specs.declared.line.derivation.KeyName.{KeyName}
use Rattle.dnsv_lines.specs.declared.line.fault.zone.WhyEntry.{WhyEntry}
use Rattle.dnsv_lines.specs.declared.line.fault.zone.WhyEntry.TheVariants as why
use Rattle.dnsv_mending.specs.Faults.{self_lines}
use Rattle.dnsv_mending.specs.Mend.{Mended, cheapest, fault, is_none, joined, seen, telling}
use Rattle.dnsv_mending.specs.declared.facts.keys.DnskeyFacts.{DnskeyFacts}
use Rattle.dnsv_mending.specs.declared.facts.keys.HeldKey.{HeldKey}
use Rattle.dnsv_mending.specs.declared.facts.keys.SelfSignature.{SelfSignature}
use Rattle.dnsv_mending.specs.declared.facts.keys.VoucherFacts.{VoucherFacts}
use Rattle.dnsv_mending.specs.declared.keys.SigningKey.{SigningKey}
use Rattle.dnsv_mending.specs.declared.told.Told.{Told}
use Rattle.dnsv_mending.specs.declared.told.Told.TheVariants as told

-- that a key signs its RRset: by one of its signatures
abbrev pub unsigned_way : DnskeyFacts → HeldKey → Mended
unsigned_way r key = if r.has_signatures then fault (told.NotSelfSigned key.number) else fault (told.Unsigned r.number)

unfoldable pub self_way : HeldKey → SelfSignature → List Mended
self_way key s = telling (self_lines key s) ∷ []

abbrev pub self_ways : DnskeyFacts → HeldKey → List Mended
self_ways r key = if is_none key.signatures.items then unsigned_way r key ∷ [] else flat_map (self_way key) key.signatures.items

-- a key in a DNSKEY RRset, with the least that has to be mended so that it signs it
pub record Signing : Type 0 where
  pub key : ℕ
  pub name : KeyName
  pub is_named : Bool
  pub mend : Option Mended

abbrev pub seen_signing : SigningKey → Signing
seen_signing k = record { key = k.key; name = k.name; is_named = k.is_named; mend = option_map seen k.mend }

unfoldable pub signing : DnskeyFacts → HeldKey → Signing
signing r key = record { key = key.key; name = key.name; is_named = key.is_named; mend = cheapest (self_ways r key) }

abbrev pub signings : DnskeyFacts → List Signing
signings r = map (signing r) r.keys.items

abbrev pub is_tag : KeyName → KeyName → Bool
is_tag a b = nat_eq a.tag.0 b.tag.0

abbrev pub is_name : KeyName → KeyName → Bool
is_name a b = is_tag a b && nat_eq a.algorithm.0 b.algorithm.0

-- which keys an anchor or a DS record fits, by why it matches none
abbrev pub fits_by : VoucherFacts → Signing → Option WhyEntry → Bool
fits_by v k None = list_any (nat_eq k.key) v.matches.items
fits_by v k (Some why.DigestDiffers) = is_name v.name k.name
fits_by v k (Some why.KeyAlgorithm) = is_tag v.name k.name
fits_by v k (Some why.KeyMissing) = true
fits_by v k (Some why.Algorithm) = true
fits_by v k (Some why.DigestType) = true
fits_by v k (Some why.DigestIgnored) = true

abbrev pub fits : VoucherFacts → Signing → Bool
fits v k = fits_by v k v.why

-- it matches keys, or differs from them by the digest alone
abbrev pub is_near_by : Option WhyEntry → Bool
is_near_by None = true
is_near_by (Some why.DigestDiffers) = true
is_near_by (Some why.KeyAlgorithm) = false
is_near_by (Some why.KeyMissing) = false
is_near_by (Some why.Algorithm) = false
is_near_by (Some why.DigestType) = false
is_near_by (Some why.DigestIgnored) = false

abbrev pub is_missing_by : Option WhyEntry → Bool
is_missing_by (Some why.KeyMissing) = true
is_missing_by None = false
is_missing_by (Some why.DigestDiffers) = false
is_missing_by (Some why.KeyAlgorithm) = false
is_missing_by (Some why.Algorithm) = false
is_missing_by (Some why.DigestType) = false
is_missing_by (Some why.DigestIgnored) = false

-- one of them matches, or differs by its digest alone from, a key that the RRset has a signature for
abbrev pub is_served : List VoucherFacts → List Signing → Bool
is_served group keys = list_any (λ v. is_near_by v.why && list_any (λ k. k.is_named && fits v k) keys) group

-- what is told of an anchor or a DS record that matches no key
abbrev pub voucher_fault : VoucherFacts → Option Told
voucher_fault v = option_map (λ w. told.Entry w v.number) v.why

unfoldable pub fitting_way : Option Mended → VoucherFacts → Signing → List Mended
fitting_way chain v k = if fits v k then joined chain (voucher_fault v) k.mend else []

-- by an anchor or a DS record: what it stands on, its fault, and that the key signs the RRset
unfoldable pub voucher_ways : Option Mended → Bool → List Signing → VoucherFacts → List Mended
voucher_ways chain is_served keys v = if is_missing_by v.why && is_served then [] else flat_map (fitting_way chain v) keys

-- by those that stand together: one whose key is missing is passed over where another has its key
abbrev pub group_ways : Option Mended → List Signing → List VoucherFacts → List Mended
group_ways chain keys group = flat_map (voucher_ways chain (is_served group keys) keys) group
