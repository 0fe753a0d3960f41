-- Of DNSKEY RRsets, and of what vouches for their keys, that are alike: they are trusted on the same ways.
use Rattle.std.proofs.Common.{◌≡◌, ◌++◌, ◌&&◌, Bool, not, if◌then◌else◌, List, [], ◌∷◌, Option, Some, None, flat_map, refl}
use Rattle.std.specs.Prelude.{nat_eq}
use Rattle.std.specs.List.{AllZip, list_any}
use Rattle.std.specs.Option.{option_map}
use Rattle.dnsv_lines.specs.declared.line.fault.signature.WhySignature.TheVariants as fault
use Rattle.dnsv_lines.specs.declared.line.fault.zone.WhyEntry.{WhyEntry}
use Rattle.dnsv_lines.specs.declared.line.fault.zone.WhyEntry.TheVariants as why
use Rattle.dnsv_mending.specs.Faults.{answer_lines, fault_lines, or_else, when}
use Rattle.dnsv_mending.specs.Keys.{Signing, fits, fits_by, fitting_way, group_ways, is_missing_by, is_name, is_near_by, is_served, is_tag, self_way, self_ways, signing, signings, unsigned_way, voucher_fault, voucher_ways}
use Rattle.dnsv_mending.specs.Mend as mend
use Rattle.dnsv_mending.specs.Mend.{Mended, cheapest, is_none, joined, telling}
use Rattle.dnsv_mending.specs.declared.facts.keys.DnskeyFacts.{DnskeyFacts}
use Rattle.dnsv_mending.specs.declared.facts.keys.HeldKey.{HeldKey}
use Rattle.dnsv_mending.specs.declared.facts.keys.SelfSignature.{SelfSignature}
use Rattle.dnsv_mending.specs.declared.facts.keys.VoucherFacts.{VoucherFacts}
use Rattle.dnsv_mending.specs.declared.told.Told.TheVariants as told
use Rattle.dnsv_remedy_laws.specs.AlikeZones.{AreAlikeDnskeys, AreAlikeHeldKeys, AreAlikeVouchers}
use Rattle.dnsv_remedy_laws.proofs.Lists.{flat_map-alike, list_any-alike, map-alike}

-- ---- keys

unsigned_way-alike : (r s : DnskeyFacts) → AreAlikeDnskeys r s → (a b : HeldKey) → AreAlikeHeldKeys a b
    → unsigned_way r a ≡ unsigned_way s b
unsigned_way-alike r s d a b e = λ i. if d.has_signatures i then mend.fault (told.NotSelfSigned (e.number i))
    else mend.fault (told.Unsigned (d.number i))

self_way-alike : (a b : HeldKey) → AreAlikeHeldKeys a b → (s : SelfSignature) → self_way a s ≡ self_way b s
unfolding self_way
self_way-alike a b e s = λ i. telling (or_else (fault_lines s.number s.faults
    ++ when (not (e.is_zone_key i)) (told.Signature fault.NotZoneKey s.number)) (answer_lines s.number s.answer)) ∷ []

self_ways-alike : (r s : DnskeyFacts) → AreAlikeDnskeys r s → (a b : HeldKey) → AreAlikeHeldKeys a b → self_ways r a ≡ self_ways s b
self_ways-alike r s d a b e = λ i. if is_none (e.signatures i) then unsigned_way-alike r s d a b e i ∷ []
    else flat_map (λ (each : SelfSignature). self_way-alike a b e each i) (e.signatures i)

signing-alike : (r s : DnskeyFacts) → AreAlikeDnskeys r s → (a b : HeldKey) → AreAlikeHeldKeys a b → signing r a ≡ signing s b
unfolding signing
signing-alike r s d a b e = λ i. record {
  key = e.key i;
  name = e.name i;
  is_named = e.is_named i;
  mend = cheapest (self_ways-alike r s d a b e i);
}

pub signings-alike : (r s : DnskeyFacts) → AreAlikeDnskeys r s → signings r ≡ signings s
signings-alike r s d = map-alike AreAlikeHeldKeys (signing r) (signing s) (signing-alike r s d) r.keys.items s.keys.items d.keys

-- ---- anchors and DS records

fits_by-alike : (k : Signing) (w : Option WhyEntry) (a b : VoucherFacts) → AreAlikeVouchers a b → fits_by a k w ≡ fits_by b k w
fits_by-alike k None a b e = λ i. list_any (nat_eq k.key) (e.matches i)
fits_by-alike k (Some why.DigestDiffers) a b e = λ i. is_name (e.name i) k.name
fits_by-alike k (Some why.KeyAlgorithm) a b e = λ i. is_tag (e.name i) k.name
fits_by-alike k (Some why.KeyMissing) a b e = refl
fits_by-alike k (Some why.Algorithm) a b e = refl
fits_by-alike k (Some why.DigestType) a b e = refl
fits_by-alike k (Some why.DigestIgnored) a b e = refl

pub fits-alike : (a b : VoucherFacts) → AreAlikeVouchers a b → (k : Signing) → fits a k ≡ fits b k
fits-alike a b e k = λ i. fits_by-alike k (e.why i) a b e i

is_served-alike : (keys : List Signing) (xs ys : List VoucherFacts) → AllZip AreAlikeVouchers xs ys → is_served xs keys ≡ is_served ys keys
is_served-alike keys xs ys e =
    let serves : VoucherFacts → Bool = λ (v : VoucherFacts). is_near_by v.why && list_any (λ (k : Signing). k.is_named && fits v k) keys in
    list_any-alike AreAlikeVouchers serves serves
    (λ x y each i. is_near_by (each.why i) && list_any (λ (k : Signing). k.is_named && fits-alike x y each k i) keys) xs ys e

voucher_fault-alike : (a b : VoucherFacts) → AreAlikeVouchers a b → voucher_fault a ≡ voucher_fault b
voucher_fault-alike a b e = λ i. option_map (λ (w : WhyEntry). told.Entry w (e.number i)) (e.why i)

fitting_way-alike : (chain : Option Mended) (a b : VoucherFacts) → AreAlikeVouchers a b → (k : Signing)
    → fitting_way chain a k ≡ fitting_way chain b k
unfolding fitting_way
fitting_way-alike chain a b e k = λ i. if fits-alike a b e k i then joined chain (voucher_fault-alike a b e i) k.mend else []

voucher_ways-alike : (chain : Option Mended) (served : Bool) (keys : List Signing) (a b : VoucherFacts) → AreAlikeVouchers a b
    → voucher_ways chain served keys a ≡ voucher_ways chain served keys b
unfolding voucher_ways
voucher_ways-alike chain served keys a b e = λ i. if is_missing_by (e.why i) && served then []
    else flat_map (λ (k : Signing). fitting_way-alike chain a b e k i) keys

pub group_ways-alike : (chain : Option Mended) (keys : List Signing) (xs ys : List VoucherFacts) → AllZip AreAlikeVouchers xs ys
    → group_ways chain keys xs ≡ group_ways chain keys ys
group_ways-alike chain keys xs ys e = λ i.
    let served : Bool = is_served-alike keys xs ys e i in
    flat_map-alike AreAlikeVouchers (voucher_ways chain served keys) (voucher_ways chain served keys)
    (voucher_ways-alike chain served keys) xs ys e i
