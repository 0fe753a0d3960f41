-- What is found of the RRsets of a trusted zone: they are signed by it, or something is told.
use Rattle.std.proofs.Common.{◌≡◌, ◌⊎◌, inl, inr, ⊎_elim, ℕ, ◌++◌, ◌&&◌, not, Bool, true, false, if◌then◌else◌, List, [], ◌∷◌, Option, Some, None, map, flat_map, refl, sym, ap, ◌∙◌, nat_eq, slice_get}
use Rattle.std.proofs.lemmas.Bool.{eqb-true, false≢true}
use Rattle.std.proofs.lemmas.List.{map-append}
use Rattle.std.proofs.lemmas.Option.{slice_get-map}
use Rattle.std.specs.List.{AllByRecursion, list_any}
use Rattle.std.specs.Option.{option_map}
use Rattle.dnsv_mending.specs.Faults.{answer_lines, signature_lines}
use Rattle.dnsv_mending.specs.Level.{Leveled}
use Rattle.dnsv_mending.specs.Mend.{Mended, cheapest, fault, is_none, nothing, telling}
use Rattle.dnsv_mending.specs.Ways.{IsAmong}
use Rattle.dnsv_mending.specs.Within.{is_by, is_signer_trusted, mildest, own_lines, own_way, own_ways, unfounded, within_ways, zone_signature_ways}
use Rattle.dnsv_mending.specs.Zone.{is_zone_trusted, level_over, levels_from, levels_of}
use Rattle.dnsv_mending.specs.declared.facts.signature.RrsetFacts.{RrsetFacts}
use Rattle.dnsv_mending.specs.declared.facts.signature.SignatureFacts.{SignatureFacts}
use Rattle.dnsv_mending.specs.declared.facts.zone.ZoneFacts.{ZoneFacts}
use Rattle.dnsv_mending.specs.declared.price.Class.TheVariants as class
use Rattle.dnsv_mending.specs.declared.told.Told.{Told}
use Rattle.dnsv_mending.specs.declared.told.Told.TheVariants as told
use Rattle.dnsv_mending.proofs.AllWays.{all_flat, all_if, all_ways_of, of_cheapest}
use Rattle.dnsv_mending.proofs.DearLines.{Dear, IsTold, dear_answer, dear_else, dear_signature, no_lines, one_dear, some_lines}
use Rattle.dnsv_mending.proofs.Reasons.{both_true, signer_first}
use Rattle.dnsv_remedies.specs.Parts.{or_missing, part, within_kept}
use Rattle.dnsv_remedies.specs.Reasons.{AreOf, IsOf, IsPart, IsTrusted}
use Rattle.dnsv_remedies.specs.Remedy.{missing}
use Rattle.dnsv_remedies.specs.declared.said.Said.{Said}
use Rattle.dnsv_remedies.proofs.OneSignature.{append_empty}
use Rattle.dnsv_remedies.proofs.Told.{Fails, Owns, missing_fails, own_of, whole_fails}

-- ---- which zones are trusted

abbrev trusted_in : List Leveled → List Bool
trusted_in levels = map (λ (level : Leveled). level.is_trusted) levels

level_trusted : (is_anchored : Bool) (levels : List Leveled) (z : ZoneFacts) → (level_over is_anchored levels z).is_trusted ≡ is_zone_trusted z
unfolding level_over
level_trusted is_anchored levels z = refl

append_one : {X : Type 0} (xs : List X) (y : X) (ys : List X) → (xs ++ y ∷ []) ++ ys ≡ xs ++ y ∷ ys
append_one [] y ys = refl
append_one (x ∷ xs) y ys = ap (λ zs. x ∷ zs) (append_one xs y ys)

trusted_from : (is_anchored : Bool) (zones : List ZoneFacts) (levels : List Leveled)
    → trusted_in (levels_from is_anchored levels zones) ≡ trusted_in levels ++ map is_zone_trusted zones
trusted_from is_anchored [] levels = sym (append_empty (trusted_in levels))
trusted_from is_anchored (z ∷ zs) levels =
    let level = level_over is_anchored levels z in
    trusted_from is_anchored zs (levels ++ level ∷ [])
    ∙ ap (λ bs. bs ++ map is_zone_trusted zs) (map-append (λ (l : Leveled). l.is_trusted) levels (level ∷ [])
    ∙ ap (λ b. trusted_in levels ++ b ∷ []) (level_trusted is_anchored levels z))
    ∙ append_one (trusted_in levels) (is_zone_trusted z) (map is_zone_trusted zs)

-- what is kept of a zone tells whether it is trusted
pub trusted_at : (zones : List ZoneFacts) (n : ℕ)
    → option_map (λ (l : Leveled). l.is_trusted) (slice_get (levels_of true zones) n) ≡ option_map is_zone_trusted (slice_get zones n)
trusted_at zones n = sym (slice_get-map (λ (l : Leveled). l.is_trusted) (levels_of true zones) n)
    ∙ ap (λ bs. slice_get bs n) (trusted_from true zones []) ∙ slice_get-map is_zone_trusted zones n

signer_by : (o : Option Leveled) → option_map (λ (l : Leveled). l.is_trusted) o ≡ Some true → is_signer_trusted o ≡ true
signer_by None h = cc
signer_by (Some level) h = cc

pub signer_trusted : (zones : List ZoneFacts) (n : ℕ) → IsTrusted zones n → is_signer_trusted (slice_get (levels_of true zones) n) ≡ true
signer_trusted zones n t = signer_by (slice_get (levels_of true zones) n)
    (trusted_at zones n ∙ ap (option_map is_zone_trusted) t.is ∙ ap Some t.trusted)

-- ---- signatures

pub dear_own : (s : SignatureFacts) → AllByRecursion Dear (own_lines s)
dear_own s = dear_else (signature_lines s) (answer_lines s.number (mildest s)) (dear_signature s) (dear_answer s.number (mildest s))

some_owns : (lines : List Told) → AllByRecursion Dear lines → is_none lines ≡ false → Owns (telling lines)
some_owns lines all h = own_of (telling lines) refl
    (⊎_elim (λ (none : lines ≡ []). absurd (false≢true (sym h ∙ ap is_none none))) (λ (t : IsTold (telling lines)). t) (some_lines lines all))

untrusted_owns : (t : Bool) (s : SignatureFacts) → t ≡ true → Owns (unfounded t s)
untrusted_owns true s h = record { reason = refl; costs = λ e. one_dear class.NotFitting e }
untrusted_owns false s h = absurd (false≢true h)

own_case : (t : Bool) (trust : Bool) (s : SignatureFacts) → is_none (own_lines s) ≡ t → (t ≡ true → trust ≡ true)
    → Owns (if t then unfounded trust s else telling (own_lines s))
own_case true trust s e h = untrusted_owns trust s (h refl)
own_case false trust s e h = some_owns (own_lines s) (dear_own s) e

-- by a trusted zone
pub trusted_owns : (levels : List Leveled) (s : SignatureFacts) → is_signer_trusted (slice_get levels s.signer) ≡ true → Owns (own_way levels s)
trusted_owns levels s h = own_case (is_none (own_lines s)) (is_signer_trusted (slice_get levels s.signer)) s refl (λ e. h)

empty_list : {X : Type 0} (xs : List X) → is_none xs ≡ true → xs ≡ []
empty_list [] h = refl
empty_list (x ∷ xs) h = absurd (false≢true h)

-- by none that may be its zone
pub foreign_owns : (levels : List Leveled) (s : SignatureFacts) → s.faults.signer ≡ true → Owns (own_way levels s)
foreign_owns levels s h = own_case (is_none (own_lines s)) (is_signer_trusted (slice_get levels s.signer)) s refl
    (λ e. absurd (signer_first s h ((no_lines (signature_lines s) (answer_lines s.number (mildest s)) (empty_list (own_lines s) e)).0)))

-- ---- RRsets

abbrev Signed : ℕ → RrsetFacts → Type 0
Signed zone r = list_any (λ (s : SignatureFacts). is_by zone s && s.is_signed) r.signatures.items ≡ true

unsigned_owns : (n : ℕ) → Owns (fault (told.Unsigned n))
unsigned_owns n = record { reason = refl; costs = one_dear class.Stripped }

abbrev Found : List Leveled → ℕ → RrsetFacts → Mended → Type 0
Found levels zone r m = Signed zone r ⊎ Owns m

by_zone_case : (levels : List Leveled) (zone : ℕ) (r : RrsetFacts) (s : SignatureFacts) (t : Bool) → is_by zone s ≡ t
    → is_signer_trusted (slice_get levels zone) ≡ true → AllByRecursion (Found levels zone r) (if t then own_way levels s ∷ [] else [])
by_zone_case levels zone r s false e h = tt
by_zone_case levels zone r s true e h =
    let same : s.signer ≡ zone = eqb-true s.signer zone ((both_true (not s.faults.signer) (nat_eq s.signer zone) e).1) in
    (inr (trusted_owns levels s (ap (λ n. is_signer_trusted (slice_get levels n)) same ∙ h)), tt)

by_zone : (levels : List Leveled) (zone : ℕ) (r : RrsetFacts) (s : SignatureFacts) → is_signer_trusted (slice_get levels zone) ≡ true
    → AllByRecursion (Found levels zone r) (zone_signature_ways levels zone s)
unfolding zone_signature_ways
by_zone levels zone r s h = by_zone_case levels zone r s (is_by zone s) refl h

by_another : (levels : List Leveled) (zone : ℕ) (r : RrsetFacts) (s : SignatureFacts) → s.faults.signer ≡ true
    → AllByRecursion (Found levels zone r) (own_ways levels s)
unfolding own_ways
by_another levels zone r s h = (inr (foreign_owns levels s h), tt)

-- an RRset of a trusted zone
pub within_all : (levels : List Leveled) (zone : ℕ) (r : RrsetFacts) → is_signer_trusted (slice_get levels zone) ≡ true → IsOf zone r
    → AllByRecursion (Found levels zone r) (within_ways levels zone r)
within_all levels zone r h of =
    let signatures = r.signatures.items in
    let test = λ (s : SignatureFacts). is_by zone s && s.is_signed in
    all_if (Found levels zone r) (list_any test signatures) (nothing ∷ []) _
    (λ is. (inl is, tt))
    (λ not_signed. all_if (Found levels zone r) (is_none signatures) (fault (told.Unsigned r.number) ∷ []) _
    (λ none. (inr (unsigned_owns r.number), tt))
    (λ some. all_if (Found levels zone r) (list_any (is_by zone) signatures) (flat_map (zone_signature_ways levels zone) signatures) (flat_map (own_ways levels) signatures)
    (λ is. all_flat (Found levels zone r) (zone_signature_ways levels zone) signatures (λ s among. by_zone levels zone r s h))
    (λ none. ⊎_elim
    (λ (is : list_any (is_by zone) signatures ≡ true). absurd (false≢true (sym none ∙ is)))
    (λ (each : (s : SignatureFacts) → IsAmong s signatures → s.faults.signer ≡ true).
    all_flat (Found levels zone r) (own_ways levels) signatures (λ s among. by_another levels zone r s (each s among))) of)))

-- ---- parts

kept_all : (levels : List Leveled) (zone : ℕ) (rrsets : List RrsetFacts) (r : RrsetFacts) → IsAmong r rrsets
    → is_signer_trusted (slice_get levels zone) ≡ true → IsOf zone r → AllByRecursion (λ m. IsPart zone rrsets ⊎ Owns m) (within_kept levels zone r)
unfolding within_kept
kept_all levels zone rrsets r among h of = all_ways_of (λ m. IsPart zone rrsets ⊎ Owns m) (cheapest (within_ways levels zone r))
    (λ m is. ⊎_elim (λ (signed : Signed zone r). inl (record { r = r; among = among; signed = signed })) (λ (o : Owns m). inr o)
    (of_cheapest (Found levels zone r) (within_ways levels zone r) m (within_all levels zone r h of) is))

part_case : (P : Type 0) (lines : List Said) (o : Option Mended) → ((m : Mended) → o ≡ Some m → P ⊎ Owns m)
    → P ⊎ Fails (or_missing o (missing class.Lacking lines))
part_case P lines None each = inr (missing_fails class.Lacking lines)
part_case P lines (Some m) each = ⊎_elim (λ (p : P). inl p) (λ (o : Owns m). inr (whole_fails m o)) (each m refl)

-- a part of a trusted zone: an RRset is signed by the zone, or the part fails by itself
pub part_fails : (levels : List Leveled) (zone : ℕ) (rrsets : List RrsetFacts) (lines : List Said) → is_signer_trusted (slice_get levels zone) ≡ true
    → AreOf zone rrsets → IsPart zone rrsets ⊎ Fails (part levels zone rrsets lines)
part_fails levels zone rrsets lines h of =
    let P : Mended → Type 0 = λ m. IsPart zone rrsets ⊎ Owns m in
    part_case (IsPart zone rrsets) lines (cheapest (flat_map (within_kept levels zone) rrsets))
    (λ m is. of_cheapest P (flat_map (within_kept levels zone) rrsets) m
    (all_flat P (within_kept levels zone) rrsets (λ r among. kept_all levels zone rrsets r among h (of r among))) is)
