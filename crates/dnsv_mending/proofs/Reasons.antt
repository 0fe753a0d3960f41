-- What isn't trusted costs something and has a reason.
use Rattle.std.proofs.Common.{◌≡◌, ◌⊎◌, inl, inr, ⊎_elim, ℕ, ◌++◌, ◌&&◌, not, Bool, true, false, if◌then◌else◌, List, [], ◌∷◌, Option, Some, None, refl, sym, ap, ◌∙◌, subst, slice_get}
use Rattle.std.proofs.lemmas.Bool.{false≢true}
use Rattle.std.proofs.lemmas.Option.{same_Some}
use Rattle.std.specs.List.{AllByRecursion, list_any}
use Rattle.std.specs.Option.{option_map}
use Rattle.dnsv_canonical.specs.declared.number.SignatureNumber.{SignatureNumber}
use Rattle.dnsv_lines.specs.declared.line.fault.signature.WhySignature.TheVariants as signature_why
use Rattle.dnsv_lines.specs.declared.line.fault.zone.EntryNumber.{EntryNumber}
use Rattle.dnsv_lines.specs.declared.line.fault.zone.WhyEntry.{WhyEntry}
use Rattle.dnsv_lines.specs.declared.line.fault.zone.WhyZone.TheVariants as zone_why
use Rattle.dnsv_mending.specs.Faults.{answer_lines, consequence, expired_lines, fault_lines, lines_under, not_yet_lines, or_else, self_lines, signature_lines, unnamed_lines, when}
use Rattle.dnsv_mending.specs.Keys.{voucher_fault}
use Rattle.dnsv_mending.specs.Level.{Leveled}
use Rattle.dnsv_mending.specs.Mend.{Mended, both, cheapest, cost_from, fault, following, is_none, nothing, telling, untold, with_fault}
use Rattle.dnsv_mending.specs.Price as price
use Rattle.dnsv_mending.specs.Price.{add, one}
use Rattle.dnsv_mending.specs.Reasons.{HasReason, IsClosed, IsClosedRrset, IsClosedSignature, IsSelfSigned, IsSignedRrset, is_reason}
use Rattle.dnsv_mending.specs.Rrset.{rrset_ways}
use Rattle.dnsv_mending.specs.Ways.{IsAmong, IsWay, Thing}
use Rattle.dnsv_mending.specs.Ways.IsWay.{zone_trusted, zone_unanchored, zone_by, zone_without, lead_missing, lead_anchor, lead_ds, dnskey_trusted, dnskey_unanchored, dnskey_by_anchor, dnskey_by_ds, dnskey_unvouched, signs_none, signs_by, rrset_unsigned, rrset_by, signature_signed, signature_of_another, signature_unnamed, signature_held, signature_unheld}
use Rattle.dnsv_mending.specs.Ways.Thing.{zone, lead, dnskey, signs, rrset, signature}
use Rattle.dnsv_mending.specs.Zone.{has_none, is_zone_trusted, levels_of, not_vouched}
use Rattle.dnsv_mending.specs.declared.facts.keys.DnskeyFacts.{DnskeyFacts}
use Rattle.dnsv_mending.specs.declared.facts.keys.HeldKey.{HeldKey}
use Rattle.dnsv_mending.specs.declared.facts.keys.SelfSignature.{SelfSignature}
use Rattle.dnsv_mending.specs.declared.facts.keys.VoucherFacts.{VoucherFacts}
use Rattle.dnsv_mending.specs.declared.facts.signature.NamedKey.{NamedKey}
use Rattle.dnsv_mending.specs.declared.facts.signature.RrsetFacts.{RrsetFacts}
use Rattle.dnsv_mending.specs.declared.facts.signature.SignatureFacts.{SignatureFacts}
use Rattle.dnsv_mending.specs.declared.facts.zone.ZoneFacts.{ZoneFacts}
use Rattle.dnsv_mending.specs.declared.price.Class.TheVariants as class
use Rattle.dnsv_mending.specs.declared.told.Told.{Told}
use Rattle.dnsv_mending.specs.declared.told.Told.TheVariants as told
use Rattle.dnsv_mending.proofs.DearLines.{Dear, IsTold, any_first, dear_answer, dear_else, dear_fault, dear_faults, dear_signature, dear_when, entry_dear, no_lines, one_dear, or_true, or_true_second, some_lines, told_above, told_below, told_fault, told_first, told_lines}
use Rattle.dnsv_mending.proofs.Cheapest.{none_second}
use Rattle.dnsv_mending.proofs.AllWays.{all_append, among_at}
use Rattle.dnsv_mending.proofs.EachWay.{rrset_way, zone_way}

-- ---- of each single way: the thing is trusted or signed, or the way is told

abbrev Tells : List ZoneFacts → Thing → Mended → Type 0
Tells zones (zone n) m = (z : ZoneFacts) → slice_get zones n ≡ Some z → (is_zone_trusted z ≡ true) ⊎ IsTold m
Tells zones (lead n) m = (z : ZoneFacts) → slice_get zones n ≡ Some z → has_none z ≡ true → IsTold m
Tells zones (dnskey n r) m = (z : ZoneFacts) → slice_get zones n ≡ Some z → IsAmong r z.dnskeys.items → (r.is_trusted ≡ true) ⊎ IsTold m
Tells zones (signs r k) m = IsSelfSigned k ⊎ IsTold m
Tells zones (rrset r) m = IsClosedRrset zones r → IsSignedRrset r ⊎ IsTold m
Tells zones (signature s) m = IsClosedSignature zones s → (s.is_signed ≡ true) ⊎ IsTold m

-- a DNSKEY RRset of the zone that is trusted makes it so
pub trusted_by : (rs : List DnskeyFacts) (r : DnskeyFacts) → IsAmong r rs → r.is_trusted ≡ true → list_any (λ (each : DnskeyFacts). each.is_trusted) rs ≡ true
trusted_by [] r among h = absurd among
trusted_by (x ∷ rs) r among h = ⊎_elim
    (λ (e : r ≡ x). or_true x.is_trusted (list_any (λ (each : DnskeyFacts). each.is_trusted) rs) (ap (λ (each : DnskeyFacts). each.is_trusted) (sym e) ∙ h))
    (λ (e : IsAmong r rs). or_true_second x.is_trusted (list_any (λ (each : DnskeyFacts). each.is_trusted) rs) (trusted_by rs r e h)) among

-- the same zone
pub same_zone : (zones : List ZoneFacts) (n : ℕ) (y z : ZoneFacts) → slice_get zones n ≡ Some y → slice_get zones n ≡ Some z → y ≡ z
same_zone zones n y z a b = same_Some y z (sym a ∙ b)

fault_of : (why : Option WhyEntry) (n : EntryNumber) (m : Mended) → ((why ≡ None) × (with_fault (option_map (λ w. told.Entry w n) why) m ≡ m))
    ⊎ IsTold (with_fault (option_map (λ w. told.Entry w n) why) m)
fault_of None n m = inl (refl, refl)
fault_of (Some w) n m = inr (told_first (fault (told.Entry w n)) m (told_fault (told.Entry w n) (entry_dear w n)))

-- by an anchor or a DS record: it has no fault and the key signs, or something is told
by_voucher : (v : VoucherFacts) (k : HeldKey) (c m : Mended) → IsSelfSigned k ⊎ IsTold m
    → ((v.why ≡ None) × IsSelfSigned k) ⊎ IsTold (following c (with_fault (voucher_fault v) m))
by_voucher v k c m self_or = ⊎_elim
    (λ (free : (v.why ≡ None) × (with_fault (voucher_fault v) m ≡ m)). ⊎_elim
    (λ (self : IsSelfSigned k). inl (free.0, self))
    (λ (t : IsTold m). inr (told_below c (with_fault (voucher_fault v) m) (subst IsTold (sym free.1) t))) self_or)
    (λ (t : IsTold (with_fault (voucher_fault v) m)). inr (told_below c (with_fault (voucher_fault v) m) t))
    (fault_of v.why v.number m)

unsigned_told : (r : DnskeyFacts) (k : HeldKey) (t : Bool) → IsTold (if t then fault (told.NotSelfSigned k.number) else fault (told.Unsigned r.number))
unsigned_told r k true = told_fault (told.NotSelfSigned k.number) (dear_fault class.NotSigning (told.NotSelfSigned k.number) refl refl)
unsigned_told r k false = told_fault (told.Unsigned r.number) (dear_fault class.Stripped (told.Unsigned r.number) refl refl)

pub dear_self : (k : HeldKey) (s : SelfSignature) → AllByRecursion Dear (self_lines k s)
dear_self k s =
    dear_else (fault_lines s.number s.faults ++ when (not k.is_zone_key) (told.Signature signature_why.NotZoneKey s.number)) (answer_lines s.number s.answer)
    (all_append Dear (fault_lines s.number s.faults) (when (not k.is_zone_key) (told.Signature signature_why.NotZoneKey s.number)) (dear_faults s.number s.faults)
    (dear_when (not k.is_zone_key) (told.Signature signature_why.NotZoneKey s.number) (dear_fault class.NotFitting (told.Signature signature_why.NotZoneKey s.number) refl refl)))
    (dear_answer s.number s.answer)

unvouched_told : (z : ZoneFacts) (r : DnskeyFacts) (t : Bool) (m : Mended) → t ≡ false → IsTold (with_fault (if t then None else Some (told.NotVouched r.number)) m)
unvouched_told z r true m h = absurd (false≢true (sym h))
unvouched_told z r false m h = told_first (fault (told.NotVouched r.number)) m
    (told_fault (told.NotVouched r.number) (dear_fault class.NotFitting (told.NotVouched r.number) refl refl))

no_left : (xs ys : List Told) → xs ++ ys ≡ [] → xs ≡ []
no_left [] ys h = refl
no_left (x ∷ xs) ys h = cc

no_right : (xs ys : List Told) → xs ++ ys ≡ [] → ys ≡ []
no_right [] ys h = h
no_right (x ∷ xs) ys h = cc

when_true : (b : Bool) (line : Told) → b ≡ true → when b line ≡ [] → ⊥
when_true true line h none = cc
when_true false line h none = false≢true h

-- a signature by another zone has that fault
pub signer_first : (s : SignatureFacts) → s.faults.signer ≡ true → signature_lines s ≡ [] → ⊥
signer_first s h none =
    let n = s.number in
    let f = s.faults in
    let a = when f.labels (told.Signature signature_why.Labels n) in
    let b = when f.signer (told.Signature signature_why.Signer n) in
    let c = when f.expanded (told.Signature signature_why.Expanded n) in
    let d = when f.algorithm (told.Signature signature_why.Algorithm n) in
    let e = not_yet_lines n f.not_yet in
    let g = expired_lines n f.expired in
    let missing = when s.key_missing (told.Signature signature_why.KeyMissing n) in
    when_true f.signer (told.Signature signature_why.Signer n) h
    (no_right a b (no_left (a ++ b) c (no_left (a ++ b ++ c) d (no_left (a ++ b ++ c ++ d) e (no_left (a ++ b ++ c ++ d ++ e) g
    (no_left (fault_lines n f) missing (no_left (fault_lines n f ++ missing) (when s.not_zone_key (told.Signature signature_why.NotZoneKey n)) none)))))))

-- ---- under a key

under_told : (t : Bool) (s : SignatureFacts) (k : NamedKey)
    → ((signature_lines s ≡ []) × (answer_lines s.number k.answer ≡ [])) ⊎ IsTold (telling (lines_under t s k))
under_told t s k = ⊎_elim
    (λ (none : or_else (signature_lines s) (answer_lines s.number k.answer) ≡ []). inl (no_lines (signature_lines s) (answer_lines s.number k.answer) none))
    (λ (h : IsTold (telling (lines_under t s k))). inr h)
    (told_lines (or_else (signature_lines s) (answer_lines s.number k.answer)) (consequence t s.number ∷ [])
    (dear_else (signature_lines s) (answer_lines s.number k.answer) (dear_signature s) (dear_answer s.number k.answer)))

reason_else : (lines : List Told) (line : Told) → AllByRecursion Dear lines → is_reason line ≡ true → list_any is_reason (or_else lines (line ∷ [])) ≡ true
reason_else [] line all h = or_true (is_reason line) false h
reason_else (x ∷ xs) line all h = or_true (is_reason x) (list_any is_reason xs) all.0.reason

consequence_reason : (t : Bool) (n : SignatureNumber) → t ≡ true → is_reason (consequence t n) ≡ true
consequence_reason true n h = refl
consequence_reason false n h = absurd (false≢true h)

unheld_told : (t : Bool) (s : SignatureFacts) (k : NamedKey) → t ≡ true → IsTold (both (telling (lines_under t s k)) (untold class.NotFitting))
unheld_told t s k h = record {
  reason = inr (any_first (lines_under t s k) [] (reason_else (or_else (signature_lines s) (answer_lines s.number k.answer)) (consequence t s.number)
      (dear_else (signature_lines s) (answer_lines s.number k.answer) (dear_signature s) (dear_answer s.number k.answer)) (consequence_reason t s.number h)));
  costs = λ e. one_dear class.NotFitting (none_second (cost_from price.none (lines_under t s k)) (one class.NotFitting) e);
}

-- ---- what leads into a zone

pub none_among : {X : Type 0} (x : X) (xs : List X) → IsAmong x xs → is_none xs ≡ true → ⊥
none_among x [] among h = among
none_among x (y ∷ ys) among h = false≢true h

pub both_true : (a b : Bool) → (a && b) ≡ true → (a ≡ true) × (b ≡ true)
both_true true b h = (refl, h)
both_true false b h = absurd (false≢true h)

unvouched_case : (z : ZoneFacts) (r : DnskeyFacts) (c m : Mended) (t : Bool) → has_none z ≡ t → (has_none z ≡ true → IsTold c)
    → IsTold (following c (with_fault (not_vouched z r) m))
unvouched_case z r c m true e above = told_above c (with_fault (not_vouched z r) m) (above e)
unvouched_case z r c m false e above = told_below c (with_fault (not_vouched z r) m) (unvouched_told z r (has_none z) m e)

tells : (zones : List ZoneFacts) (c : IsClosed zones) (T : Thing) (m : Mended) → IsWay zones T m → Tells zones T m
tells zones c T m (zone_trusted n z at is) = λ y other. inl (subst (λ (each : ZoneFacts). is_zone_trusted each ≡ true) (same_zone zones n z y at other) is)
tells zones c T m (zone_unanchored n z at e) = λ y other. inr (told_fault (told.Zone zone_why.NoAnchor n) (dear_fault class.Missing (told.Zone zone_why.NoAnchor n) refl refl))
tells zones c T m (zone_by n z r way at among by) = λ y other.
    let same = same_zone zones n z y at other in
    ⊎_elim (λ (t : r.is_trusted ≡ true). inl (trusted_by y.dnskeys.items r (subst (λ (each : ZoneFacts). IsAmong r each.dnskeys.items) same among) t))
    (λ (t : IsTold way). inr t) (tells zones c (dnskey n r) way by z at among)
tells zones c T m (zone_without n z way at none by) = λ y other.
    inr (told_below way (fault (told.Zone zone_why.DnskeyMissing n)) (told_fault (told.Zone zone_why.DnskeyMissing n) (dear_fault class.Missing (told.Zone zone_why.DnskeyMissing n) refl refl)))
tells zones c T m (lead_missing n z way at only) = λ y other none.
    told_below way (fault (told.Zone zone_why.DsMissing n)) (told_fault (told.Zone zone_why.DsMissing n) (dear_fault class.Missing (told.Zone zone_why.DsMissing n) refl refl))
tells zones c T m (lead_anchor n z v at among) = λ y other none.
    absurd (none_among v y.anchors.items (subst (λ (each : ZoneFacts). IsAmong v each.anchors.items) (same_zone zones n z y at other) among)
    ((both_true (is_none y.anchors.items) (is_none y.ds.items) none).0))
tells zones c T m (lead_ds n z ds way at among by) = λ y other none.
    absurd (none_among ds y.ds.items (subst (λ (each : ZoneFacts). IsAmong ds each.ds.items) (same_zone zones n z y at other) among)
    ((both_true (is_none y.anchors.items) (is_none y.ds.items) none).1))
tells zones c T m (dnskey_trusted n r is) = λ y other among. inl is
tells zones c T m (dnskey_unanchored n z r at e) = λ y other among. inr (told_fault (told.Zone zone_why.NoAnchor n) (dear_fault class.Missing (told.Zone zone_why.NoAnchor n) refl refl))
tells zones c T m (dnskey_by_anchor n z r v k way at among counted key fit by) = λ y other set.
    ⊎_elim (λ (p : (v.why ≡ None) × IsSelfSigned k). inl (c.anchored n z r v k at
    (subst (λ (each : ZoneFacts). IsAmong r each.dnskeys.items) (sym (same_zone zones n z y at other)) set) among p.0 key fit p.1))
    (λ (t : IsTold (following nothing (with_fault (voucher_fault v) way))). inr t) (by_voucher v k nothing way (tells zones c (signs r k) way by))
tells zones c T m (dnskey_by_ds n z r ds v k chain way at dsin signed among counted key fit by) = λ y other set.
    ⊎_elim (λ (h : IsSignedRrset ds.rrset). ⊎_elim (λ (p : (v.why ≡ None) × IsSelfSigned k). inl (c.delegated n z r ds v k at
    (subst (λ (each : ZoneFacts). IsAmong r each.dnskeys.items) (sym (same_zone zones n z y at other)) set) dsin h among p.0 key fit p.1))
    (λ (t : IsTold (following chain (with_fault (voucher_fault v) way))). inr t) (by_voucher v k chain way (tells zones c (signs r k) way by)))
    (λ (t : IsTold chain). inr (told_above chain (with_fault (voucher_fault v) way) t)) (tells zones c (rrset ds.rrset) chain signed (c.signed n z ds at dsin))
tells zones c T m (dnskey_unvouched n z r k chain way at unfit into key by) = λ y other set.
    inr (unvouched_case z r chain way (has_none z) refl (tells zones c (lead n) chain into z at))
tells zones c T m (signs_none r k only) = inr (unsigned_told r k r.has_signatures)
tells zones c T m (signs_by r k s among) =
    ⊎_elim (λ (h : self_lines k s ≡ []). inl (s, among, h)) (λ (t : IsTold (telling (self_lines k s))). inr t) (some_lines (self_lines k s) (dear_self k s))
tells zones c T m (rrset_unsigned r way only) = λ closed.
    inr (told_below way (fault (told.Unsigned r.number)) (told_fault (told.Unsigned r.number) (dear_fault class.Stripped (told.Unsigned r.number) refl refl)))
tells zones c T m (rrset_by r s way among by) = λ closed.
    ⊎_elim (λ (h : s.is_signed ≡ true). inl (s, among, h)) (λ (t : IsTold way). inr t) (tells zones c (signature s) way by (closed s among))
tells zones c T m (signature_signed s is) = λ closed. inl is
tells zones c T m (signature_of_another s way is) = λ closed.
    ⊎_elim (λ (h : signature_lines s ≡ []). absurd (signer_first s is h)) (λ (t : IsTold (telling (signature_lines s))). inr (told_below way (telling (signature_lines s)) t))
    (some_lines (signature_lines s) (dear_signature s))
tells zones c T m (signature_unnamed s z way at none by) = λ closed.
    ⊎_elim (λ (tr : is_zone_trusted z ≡ true). ⊎_elim
    (λ (h : signature_lines s ≡ []). absurd (false≢true (sym (closed.unnamed z at none h) ∙ tr)))
    (λ (t : IsTold (telling (unnamed_lines s))). inr (told_below way (telling (unnamed_lines s)) t))
    (told_lines (signature_lines s) (told.Follows s.number ∷ []) (dear_signature s)))
    (λ (t : IsTold way). inr (told_above way (telling (unnamed_lines s)) t)) (tells zones c (zone s.signer) way by z at)
tells zones c T m (signature_held s z k key h r t way at among keyat holds stands is by) = λ closed.
    ⊎_elim (λ (tr : r.is_trusted ≡ true). ⊎_elim
    (λ (p : (signature_lines s ≡ []) × (answer_lines s.number k.answer ≡ [])). inl (closed.named z k key at among keyat
    (c.held s.signer z k.key h key r at keyat holds stands tr) p.0 p.1))
    (λ (x : IsTold (telling (lines_under t s k))). inr (told_below way (telling (lines_under t s k)) x)) (under_told t s k))
    (λ (x : IsTold way). inr (told_above way (telling (lines_under t s k)) x))
    (tells zones c (dnskey s.signer r) way by z at (among_at z.dnskeys.items h r stands))
tells zones c T m (signature_unheld s z k key t way at among keyat loose is by) = λ closed.
    let under = both (telling (lines_under t s k)) (untold class.NotFitting) in
    ⊎_elim (λ (tr : is_zone_trusted z ≡ true). inr (told_below way under (unheld_told t s k (is ∙ tr))))
    (λ (x : IsTold way). inr (told_above way under x)) (tells zones c (zone s.signer) way by z at)

pub untrusted_told : (zones : List ZoneFacts) (n : ℕ) (z : ZoneFacts) (level : Leveled) (m : Mended) → IsClosed zones → slice_get zones n ≡ Some z
    → slice_get (levels_of true zones) n ≡ Some level → level.zone ≡ Some m → (is_zone_trusted z ≡ true) ⊎ IsTold m
untrusted_told zones n z level m c at kept is = tells zones c (zone n) m (zone_way zones n level m kept is) z at

pub has_reason : (zones : List ZoneFacts) (n : ℕ) (z : ZoneFacts) (level : Leveled) (m : Mended) → IsClosed zones → slice_get zones n ≡ Some z
    → slice_get (levels_of true zones) n ≡ Some level → level.zone ≡ Some m → is_zone_trusted z ≡ false → HasReason m
has_reason zones n z level m c at kept is untrusted =
    ⊎_elim (λ (h : is_zone_trusted z ≡ true). absurd (false≢true (sym untrusted ∙ h))) (λ (t : IsTold m). t.reason) (untrusted_told zones n z level m c at kept is)

pub free_trusted : (zones : List ZoneFacts) (n : ℕ) (z : ZoneFacts) (level : Leveled) (m : Mended) → IsClosed zones → slice_get zones n ≡ Some z
    → slice_get (levels_of true zones) n ≡ Some level → level.zone ≡ Some m → m.price ≡ price.none → is_zone_trusted z ≡ true
free_trusted zones n z level m c at kept is free =
    ⊎_elim (λ (h : is_zone_trusted z ≡ true). h) (λ (t : IsTold m). absurd (t.costs free)) (untrusted_told zones n z level m c at kept is)

pub unsigned_has_reason : (zones : List ZoneFacts) (above : Option Mended) (r : RrsetFacts) (m : Mended) → IsClosed zones → IsClosedRrset zones r
    → cheapest (rrset_ways (levels_of true zones) above r) ≡ Some m → (IsSignedRrset r → ⊥) → HasReason m
unsigned_has_reason zones above r m c closed is unsigned =
    ⊎_elim (λ (h : IsSignedRrset r). absurd (unsigned h)) (λ (t : IsTold m). t.reason) (tells zones c (rrset r) m (rrset_way zones above r m is) closed)

pub free_signed : (zones : List ZoneFacts) (above : Option Mended) (r : RrsetFacts) (m : Mended) → IsClosed zones → IsClosedRrset zones r
    → cheapest (rrset_ways (levels_of true zones) above r) ≡ Some m → m.price ≡ price.none → IsSignedRrset r
free_signed zones above r m c closed is free =
    ⊎_elim (λ (h : IsSignedRrset r). h) (λ (t : IsTold m). absurd (t.costs free)) (tells zones c (rrset r) m (rrset_way zones above r m is) closed)
