-- Of RRsets that are alike: the same is wrong with their signatures, and they are signed on the same ways.
use Rattle.std.proofs.Common.{◌≡◌, ◌++◌, ◌&&◌, ℕ, Bool, true, false, not, if◌then◌else◌, List, [], ◌∷◌, Option, Some, None, flat_map, slice_get, refl}
use Rattle.std.specs.Prelude.{nat_eq}
use Rattle.dnsv_lines.specs.declared.line.fault.signature.WhySignature.TheVariants as why
use Rattle.dnsv_mending.specs.Faults.{answer_lines, consequence, fault_lines, lines_under, or_else, signature_lines, unnamed_lines, when}
use Rattle.dnsv_mending.specs.Level.{Held, Leveled}
use Rattle.dnsv_mending.specs.Mend.{Mended, after, both, fault, is_none, nothing, telling, untold}
use Rattle.dnsv_mending.specs.Rrset.{held_way, held_ways, named_ways, rrset_ways, signature_ways, signer_ways, unheld_way, unheld_ways}
use Rattle.dnsv_mending.specs.Within.{is_by, is_signer_trusted, mildest, mildest_from, own_lines, own_way, own_ways, unfounded, within_ways, zone_signature_ways}
use Rattle.dnsv_mending.specs.declared.facts.signature.KeyAnswer.TheVariants as answer
use Rattle.dnsv_mending.specs.declared.facts.signature.NamedKey.{NamedKey}
use Rattle.dnsv_mending.specs.declared.facts.signature.RrsetFacts.{RrsetFacts}
use Rattle.dnsv_mending.specs.declared.facts.signature.SignatureFacts.{SignatureFacts}
use Rattle.dnsv_mending.specs.declared.price.Class.TheVariants as class
use Rattle.dnsv_mending.specs.declared.told.Told.TheVariants as told
use Rattle.dnsv_remedy_laws.specs.AlikeZones.{AreAlikeRrsets, AreAlikeSignatures}
use Rattle.dnsv_remedy_laws.proofs.Lists.{flat_map-alike, is_none-alike, list_any-alike}

-- ---- what is wrong with a signature

signature_lines-alike : (a b : SignatureFacts) → AreAlikeSignatures a b → signature_lines a ≡ signature_lines b
signature_lines-alike a b e = λ i. fault_lines (e.number i) (e.faults i)
    ++ when (e.key_missing i) (told.Signature why.KeyMissing (e.number i))
    ++ when (e.not_zone_key i) (told.Signature why.NotZoneKey (e.number i))

unnamed_lines-alike : (a b : SignatureFacts) → AreAlikeSignatures a b → unnamed_lines a ≡ unnamed_lines b
unnamed_lines-alike a b e = λ i. or_else (signature_lines-alike a b e i) (told.Follows (e.number i) ∷ [])

lines_under-alike : (t : Bool) (k : NamedKey) (a b : SignatureFacts) → AreAlikeSignatures a b → lines_under t a k ≡ lines_under t b k
lines_under-alike t k a b e = λ i. or_else (or_else (signature_lines-alike a b e i) (answer_lines (e.number i) k.answer))
    (consequence t (e.number i) ∷ [])

-- ---- by the zones at and above the owner

held_way-alike : (t : Bool) (k : NamedKey) (found : Option Held) (a b : SignatureFacts) → AreAlikeSignatures a b
    → held_way t a k found ≡ held_way t b k found
held_way-alike t k None a b e = refl
held_way-alike t k (Some held) a b e = λ i. after held.mend (telling (lines_under-alike t k a b e i))

unheld_way-alike : (level : Leveled) (k : NamedKey) (found : Option Held) (a b : SignatureFacts) → AreAlikeSignatures a b
    → unheld_way level a k found ≡ unheld_way level b k found
unheld_way-alike level k None a b e = refl
unheld_way-alike level k (Some held) a b e = λ i. if held.is_trusted then []
    else after level.zone (both (telling (lines_under-alike level.is_trusted k a b e i)) (untold class.NotFitting))

held_ways-alike : (level : Leveled) (a b : SignatureFacts) → AreAlikeSignatures a b → (k : NamedKey)
    → held_ways level a k ≡ held_ways level b k
unfolding held_ways
held_ways-alike level a b e k = held_way-alike level.is_trusted k (slice_get level.keys k.key) a b e

unheld_ways-alike : (level : Leveled) (a b : SignatureFacts) → AreAlikeSignatures a b → (k : NamedKey)
    → unheld_ways level a k ≡ unheld_ways level b k
unfolding unheld_ways
unheld_ways-alike level a b e k = unheld_way-alike level k (slice_get level.keys k.key) a b e

named_ways-alike : (level : Leveled) (keys : List NamedKey) (a b : SignatureFacts) → AreAlikeSignatures a b
    → named_ways level a keys ≡ named_ways level b keys
named_ways-alike level keys a b e = λ i. if is_none keys then after level.zone (telling (unnamed_lines-alike a b e i))
    else flat_map (λ (k : NamedKey). held_ways-alike level a b e k i) keys
    ++ flat_map (λ (k : NamedKey). unheld_ways-alike level a b e k i) keys

signer_ways-alike : (found : Option Leveled) (a b : SignatureFacts) → AreAlikeSignatures a b → signer_ways a found ≡ signer_ways b found
signer_ways-alike None a b e = refl
signer_ways-alike (Some level) a b e = λ i. named_ways-alike level (e.keys i) a b e i

pub signature_ways-alike : (levels : List Leveled) (above : Option Mended) (a b : SignatureFacts) → AreAlikeSignatures a b
    → signature_ways levels above a ≡ signature_ways levels above b
unfolding signature_ways
signature_ways-alike levels above a b e = λ i. if e.is_signed i then nothing ∷ []
    else (if (e.faults i).signer then after above (telling (signature_lines-alike a b e i))
    else signer_ways-alike (slice_get levels (e.signer i)) a b e i)

pub rrset_ways-alike : (levels : List Leveled) (above : Option Mended) (a b : RrsetFacts) → AreAlikeRrsets a b
    → rrset_ways levels above a ≡ rrset_ways levels above b
rrset_ways-alike levels above a b e = λ i.
    if is_none-alike AreAlikeSignatures a.signatures.items b.signatures.items e.signatures i
    then after above (fault (told.Unsigned (e.number i)))
    else flat_map-alike AreAlikeSignatures (signature_ways levels above) (signature_ways levels above) (signature_ways-alike levels above)
    a.signatures.items b.signatures.items e.signatures i

-- ---- by a zone that is taken as trusted

is_by-alike : (zone : ℕ) (a b : SignatureFacts) → AreAlikeSignatures a b → is_by zone a ≡ is_by zone b
is_by-alike zone a b e = λ i. not (e.faults i).signer && nat_eq (e.signer i) zone

mildest-alike : (a b : SignatureFacts) → AreAlikeSignatures a b → mildest a ≡ mildest b
mildest-alike a b e = λ i. if is_none (e.keys i) then answer.Good else mildest_from answer.Bad (e.keys i)

own_lines-alike : (a b : SignatureFacts) → AreAlikeSignatures a b → own_lines a ≡ own_lines b
own_lines-alike a b e = λ i. or_else (signature_lines-alike a b e i) (answer_lines (e.number i) (mildest-alike a b e i))

unfounded-alike : (t : Bool) (a b : SignatureFacts) → AreAlikeSignatures a b → unfounded t a ≡ unfounded t b
unfounded-alike true a b e = λ i. both (fault (told.Signature why.KeyUntrusted (e.number i))) (untold class.NotFitting)
unfounded-alike false a b e = λ i. fault (told.Follows (e.number i))

own_way-alike : (levels : List Leveled) (a b : SignatureFacts) → AreAlikeSignatures a b → own_way levels a ≡ own_way levels b
own_way-alike levels a b e = λ i. if is_none (own_lines-alike a b e i)
    then unfounded-alike (is_signer_trusted (slice_get levels (e.signer i))) a b e i else telling (own_lines-alike a b e i)

own_ways-alike : (levels : List Leveled) (a b : SignatureFacts) → AreAlikeSignatures a b → own_ways levels a ≡ own_ways levels b
unfolding own_ways
own_ways-alike levels a b e = λ i. own_way-alike levels a b e i ∷ []

zone_signature_ways-alike : (levels : List Leveled) (zone : ℕ) (a b : SignatureFacts) → AreAlikeSignatures a b
    → zone_signature_ways levels zone a ≡ zone_signature_ways levels zone b
unfolding zone_signature_ways
zone_signature_ways-alike levels zone a b e = λ i. if is_by-alike zone a b e i then own_way-alike levels a b e i ∷ [] else []

pub within_ways-alike : (levels : List Leveled) (zone : ℕ) (a b : RrsetFacts) → AreAlikeRrsets a b
    → within_ways levels zone a ≡ within_ways levels zone b
within_ways-alike levels zone a b e =
    let xs : List SignatureFacts = a.signatures.items in
    let ys : List SignatureFacts = b.signatures.items in
    let good : SignatureFacts → Bool = λ (s : SignatureFacts). is_by zone s && s.is_signed in
    λ i. if list_any-alike AreAlikeSignatures good good (λ x y each j. is_by-alike zone x y each j && each.is_signed j)
    xs ys e.signatures i then nothing ∷ []
    else (if is_none-alike AreAlikeSignatures xs ys e.signatures i then fault (told.Unsigned (e.number i)) ∷ []
    else (if list_any-alike AreAlikeSignatures (is_by zone) (is_by zone) (is_by-alike zone) xs ys e.signatures i
    then flat_map-alike AreAlikeSignatures (zone_signature_ways levels zone) (zone_signature_ways levels zone)
    (zone_signature_ways-alike levels zone) xs ys e.signatures i
    else flat_map-alike AreAlikeSignatures (own_ways levels) (own_ways levels) (own_ways-alike levels) xs ys e.signatures i))
