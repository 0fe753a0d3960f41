-- Who mends what is told has a trusted zone, and who mends nothing just what is trusted.
use Rattle.std.proofs.Common.{◌≡◌, ℕ, ◌++◌, Bool, true, false, if◌then◌else◌, List, [], ◌∷◌, Option, Some, None, refl, sym, ◌∙◌, subst, slice_get}
use Rattle.std.proofs.lemmas.Bool.{false≢true}
use Rattle.std.specs.List.{AllByRecursion}
use Rattle.std.specs.Option.{option_map}
use Rattle.dnsv_lines.specs.declared.line.fault.zone.EntryNumber.{EntryNumber}
use Rattle.dnsv_lines.specs.declared.line.fault.zone.WhyEntry.{WhyEntry}
use Rattle.dnsv_lines.specs.declared.line.fault.zone.WhyZone.TheVariants as zone_why
use Rattle.dnsv_mending.specs.Faults.{answer_lines, consequence, lines_under, or_else, self_lines, signature_lines, unnamed_lines}
use Rattle.dnsv_mending.specs.Granted.{AreGranted, IsFaultGranted, IsGranted}
use Rattle.dnsv_mending.specs.Granted.IsGranted.{zone_has, zone_has_set, zone_anchored, zone_given, led_anew, led_by_anchor, led_by_ds, keys_trusted, keys_anchored, keys_by_anchor, keys_by_ds, keys_vouched, key_signs, keys_signed, key_signs_by, signed_anew, signed_by, kept_good, good_by_zone, good_unnamed, good_under, good_anew}
use Rattle.dnsv_mending.specs.Keys.{voucher_fault}
use Rattle.dnsv_mending.specs.Level.{Leveled}
use Rattle.dnsv_mending.specs.Mend.{Mended, cheapest, fault, following, is_none, nothing, telling, untold, with_fault, both}
use Rattle.dnsv_mending.specs.Reasons.{IsClosed, IsClosedRrset, IsClosedSignature, IsSelfSigned, IsSignedRrset}
use Rattle.dnsv_mending.specs.Rrset.{rrset_ways}
use Rattle.dnsv_mending.specs.Ways.{IsAmong, IsWay, Thing}
use Rattle.dnsv_mending.specs.Ways.IsWay.{zone_trusted, zone_unanchored, zone_by, zone_without, lead_missing, lead_anchor, lead_ds, dnskey_trusted, dnskey_unanchored, dnskey_by_anchor, dnskey_by_ds, dnskey_unvouched, signs_none, signs_by, rrset_unsigned, rrset_by, signature_signed, signature_of_another, signature_unnamed, signature_held, signature_unheld}
use Rattle.dnsv_mending.specs.Ways.Thing.{zone, lead, dnskey, signs, rrset, signature}
use Rattle.dnsv_mending.specs.Zone.{has_none, is_zone_trusted, levels_of, not_vouched}
use Rattle.dnsv_mending.specs.declared.facts.keys.DnskeyFacts.{DnskeyFacts}
use Rattle.dnsv_mending.specs.declared.facts.keys.HeldKey.{HeldKey}
use Rattle.dnsv_mending.specs.declared.facts.signature.RrsetFacts.{RrsetFacts}
use Rattle.dnsv_mending.specs.declared.facts.zone.ZoneFacts.{ZoneFacts}
use Rattle.dnsv_mending.specs.declared.price.Class.TheVariants as class
use Rattle.dnsv_mending.specs.declared.told.Told.{Told}
use Rattle.dnsv_mending.specs.declared.told.Told.TheVariants as told
use Rattle.dnsv_mending.proofs.AllWays.{among_at}
use Rattle.dnsv_mending.proofs.EachWay.{rrset_way, zone_way}
use Rattle.dnsv_mending.proofs.Reasons.{both_true, none_among, same_zone, signer_first, trusted_by}
use Rattle.dnsv_mending.proofs.DearLines.{no_lines}

all_left : {A : Type 0} (P : A → Type 0) (xs ys : List A) → AllByRecursion P (xs ++ ys) → AllByRecursion P xs
all_left P [] ys all = tt
all_left P (x ∷ xs) ys all = (all.0, all_left P xs ys all.1)

all_right : {A : Type 0} (P : A → Type 0) (xs ys : List A) → AllByRecursion P (xs ++ ys) → AllByRecursion P ys
all_right P [] ys all = all
all_right P (x ∷ xs) ys all = all_right P xs ys all.1

module _ (zones : List ZoneFacts) (g : List Told) where
  abbrev In : Told → Type 0
  In line = IsAmong line g

  -- what stands above, and what stands below
  above_chain : (m n : Mended) → AreGranted g (following m n).chain → AreGranted g m.chain
  above_chain m n all = all_left In m.chain m.own (all_left In (m.chain ++ m.own) n.chain all)

  above_own : (m n : Mended) → AreGranted g (following m n).chain → AreGranted g m.own
  above_own m n all = all_right In m.chain m.own (all_left In (m.chain ++ m.own) n.chain all)

  below_chain : (m n : Mended) → AreGranted g (following m n).chain → AreGranted g n.chain
  below_chain m n all = all_right In (m.chain ++ m.own) n.chain all

  with_chain : (t : Option Told) (m : Mended) → AreGranted g (with_fault t m).chain → AreGranted g m.chain
  with_chain None m all = all
  with_chain (Some line) m all = all

  with_own : (t : Option Told) (m : Mended) → AreGranted g (with_fault t m).own → AreGranted g m.own
  with_own None m all = all
  with_own (Some line) m all = all.1

  with_line : (t : Option Told) (m : Mended) → AreGranted g (with_fault t m).own → IsFaultGranted g t
  with_line None m all = tt
  with_line (Some line) m all = all.0

  unsigned_granted : (r : DnskeyFacts) (k : HeldKey) (t : Bool) → AreGranted g (if t then fault (told.NotSelfSigned k.number) else fault (told.Unsigned r.number)).own
      → IsGranted zones g (signs r k)
  unsigned_granted r k true all = key_signs r k all.0
  unsigned_granted r k false all = keys_signed r k all.0

  else_granted : (lines others : List Told) → AreGranted g (or_else lines others) → AreGranted g lines
  else_granted [] others all = tt
  else_granted (line ∷ lines) others all = all

  pub grants : (T : Thing) (m : Mended) → IsWay zones T m → AreGranted g m.chain → AreGranted g m.own → IsGranted zones g T
  grants T m (zone_trusted n z at is) chain own = zone_has n z at is
  grants T m (zone_unanchored n z at e) chain own = zone_anchored n own.0
  grants T m (zone_by n z r way at among by) chain own = zone_has_set n z r at among (grants (dnskey n r) way by chain own)
  grants T m (zone_without n z way at none by) chain own =
      let below = fault (told.Zone zone_why.DnskeyMissing n) in
      zone_given n own.0 (grants (lead n) way by (above_chain way below chain) (above_own way below chain))
  grants T m (lead_missing n z way at only) chain own = led_anew n own.0
  grants T m (lead_anchor n z v at among) chain own = led_by_anchor n z v at among
  grants T m (lead_ds n z ds way at among by) chain own = led_by_ds n z ds at among (grants (rrset ds.rrset) way by chain own)
  grants T m (dnskey_trusted n r is) chain own = keys_trusted n r is
  grants T m (dnskey_unanchored n z r at e) chain own = keys_anchored n r own.0
  grants T m (dnskey_by_anchor n z r v k way at among counted key fit by) chain own =
      let f = voucher_fault v in
      keys_by_anchor n z r v k at among (with_line f way own) key fit
      (grants (signs r k) way by (with_chain f way (below_chain nothing (with_fault f way) chain)) (with_own f way own))
  grants T m (dnskey_by_ds n z r ds v k into way at dsin signed among counted key fit by) chain own =
      let f = voucher_fault v in
      let below = with_fault f way in
      keys_by_ds n z r ds v k at dsin (grants (rrset ds.rrset) into signed (above_chain into below chain) (above_own into below chain)) among
      (with_line f way own) key fit (grants (signs r k) way by (with_chain f way (below_chain into below chain)) (with_own f way own))
  grants T m (dnskey_unvouched n z r k into way at unfit led key by) chain own =
      let f = not_vouched z r in
      let below = with_fault f way in
      keys_vouched n z r k at (grants (lead n) into led (above_chain into below chain) (above_own into below chain)) (with_line f way own) key
      (grants (signs r k) way by (with_chain f way (below_chain into below chain)) (with_own f way own))
  grants T m (signs_none r k only) chain own = unsigned_granted r k r.has_signatures own
  grants T m (signs_by r k s among) chain own = key_signs_by r k s among own
  grants T m (rrset_unsigned r way only) chain own = signed_anew r own.0
  grants T m (rrset_by r s way among by) chain own = signed_by r s among (grants (signature s) way by chain own)
  grants T m (signature_signed s is) chain own = kept_good s is
  grants T m (signature_of_another s way is) chain own = good_by_zone s is own
  grants T m (signature_unnamed s z way at none by) chain own =
      let below = telling (unnamed_lines s) in
      good_unnamed s z at none (else_granted (signature_lines s) (told.Follows s.number ∷ []) own)
      (grants (zone s.signer) way by (above_chain way below chain) (above_own way below chain))
  grants T m (signature_held s z k key h r t way at among keyat holds stands is by) chain own =
      let below = telling (lines_under t s k) in
      good_under s z k key h r at among keyat holds stands
      (else_granted (or_else (signature_lines s) (answer_lines s.number k.answer)) (consequence t s.number ∷ []) own)
      (grants (dnskey s.signer r) way by (above_chain way below chain) (above_own way below chain))
  grants T m (signature_unheld s z k key t way at among keyat loose is by) chain own =
      let below = both (telling (lines_under t s k)) (untold class.NotFitting) in
      good_anew s z k at among (subst (λ (b : Bool). AreGranted g (lines_under b s k)) is (all_left In (lines_under t s k) [] own))
      (grants (zone s.signer) way by (above_chain way below chain) (above_own way below chain))

pub enough : (zones : List ZoneFacts) (n : ℕ) (level : Leveled) (m : Mended) (g : List Told) → slice_get (levels_of true zones) n ≡ Some level
    → level.zone ≡ Some m → AreGranted g m.chain → AreGranted g m.own → IsGranted zones g (zone n)
enough zones n level m g kept is chain own = grants zones g (zone n) m (zone_way zones n level m kept is) chain own

pub enough_for_rrset : (zones : List ZoneFacts) (above : Option Mended) (r : RrsetFacts) (m : Mended) (g : List Told)
    → cheapest (rrset_ways (levels_of true zones) above r) ≡ Some m → AreGranted g m.chain → AreGranted g m.own → IsGranted zones g (rrset r)
enough_for_rrset zones above r m g is chain own = grants zones g (rrset r) m (rrset_way zones above r m is) chain own

-- ---- who grants nothing

abbrev Has : List ZoneFacts → Thing → Type 0
Has zones (zone n) = (z : ZoneFacts) → slice_get zones n ≡ Some z → is_zone_trusted z ≡ true
Has zones (lead n) = (z : ZoneFacts) → slice_get zones n ≡ Some z → has_none z ≡ true → ⊥
Has zones (dnskey n r) = (z : ZoneFacts) → slice_get zones n ≡ Some z → IsAmong r z.dnskeys.items → r.is_trusted ≡ true
Has zones (signs r k) = IsSelfSigned k
Has zones (rrset r) = IsClosedRrset zones r → IsSignedRrset r
Has zones (signature s) = IsClosedSignature zones s → s.is_signed ≡ true

none_granted : (lines : List Told) → AreGranted [] lines → lines ≡ []
none_granted [] all = refl
none_granted (line ∷ lines) all = absurd all.0

no_fault : (why : Option WhyEntry) (n : EntryNumber) → IsFaultGranted [] (option_map (λ w. told.Entry w n) why) → why ≡ None
no_fault None n h = refl
no_fault (Some w) n h = absurd h

no_line : (lines : List Told) (line : Told) → AreGranted [] (or_else lines (line ∷ [])) → ⊥
no_line [] line all = all.0
no_line (x ∷ xs) line all = all.0

vouched_none : (z : ZoneFacts) (r : DnskeyFacts) (t : Bool) → IsFaultGranted [] (if t then None else Some (told.NotVouched r.number)) → t ≡ true
vouched_none z r true h = refl
vouched_none z r false h = absurd h

has : (zones : List ZoneFacts) (c : IsClosed zones) (T : Thing) → IsGranted zones [] T → Has zones T
has zones c T (zone_has n z at is) = λ y other. subst (λ (each : ZoneFacts). is_zone_trusted each ≡ true) (same_zone zones n z y at other) is
has zones c T (zone_has_set n z r at among by) = λ y other.
    trusted_by y.dnskeys.items r (subst (λ (each : ZoneFacts). IsAmong r each.dnskeys.items) (same_zone zones n z y at other) among) (has zones c (dnskey n r) by z at among)
has zones c T (zone_anchored n in_none) = λ y other. absurd in_none
has zones c T (zone_given n in_none by) = λ y other. absurd in_none
has zones c T (led_anew n in_none) = λ y other none. in_none
has zones c T (led_by_anchor n z v at among) = λ y other none.
    none_among v y.anchors.items (subst (λ (each : ZoneFacts). IsAmong v each.anchors.items) (same_zone zones n z y at other) among)
    ((both_true (is_none y.anchors.items) (is_none y.ds.items) none).0)
has zones c T (led_by_ds n z ds at among by) = λ y other none.
    none_among ds y.ds.items (subst (λ (each : ZoneFacts). IsAmong ds each.ds.items) (same_zone zones n z y at other) among)
    ((both_true (is_none y.anchors.items) (is_none y.ds.items) none).1)
has zones c T (keys_trusted n r is) = λ y other among. is
has zones c T (keys_anchored n r in_none) = λ y other among. absurd in_none
has zones c T (keys_by_anchor n z r v k at among f key fit by) = λ y other set.
    c.anchored n z r v k at (subst (λ (each : ZoneFacts). IsAmong r each.dnskeys.items) (sym (same_zone zones n z y at other)) set) among
    (no_fault v.why v.number f) key fit (has zones c (signs r k) by)
has zones c T (keys_by_ds n z r ds v k at dsin signed among f key fit by) = λ y other set.
    c.delegated n z r ds v k at (subst (λ (each : ZoneFacts). IsAmong r each.dnskeys.items) (sym (same_zone zones n z y at other)) set) dsin
    (has zones c (rrset ds.rrset) signed (c.signed n z ds at dsin)) among (no_fault v.why v.number f) key fit (has zones c (signs r k) by)
has zones c T (keys_vouched n z r k at led f key by) = λ y other set. absurd (has zones c (lead n) led z at (vouched_none z r (has_none z) f))
has zones c T (key_signs r k in_none) = absurd in_none
has zones c T (keys_signed r k in_none) = absurd in_none
has zones c T (key_signs_by r k s among all) = (s, among, none_granted (self_lines k s) all)
has zones c T (signed_anew r in_none) = λ closed. absurd in_none
has zones c T (signed_by r s among by) = λ closed. (s, among, has zones c (signature s) by (closed s among))
has zones c T (kept_good s is) = λ closed. is
has zones c T (good_by_zone s is all) = λ closed. absurd (signer_first s is (none_granted (signature_lines s) all))
has zones c T (good_unnamed s z at none all by) = λ closed.
    absurd (false≢true (sym (closed.unnamed z at none (none_granted (signature_lines s) all)) ∙ has zones c (zone s.signer) by z at))
has zones c T (good_under s z k key h r at among keyat holds stands all by) = λ closed.
    let free = no_lines (signature_lines s) (answer_lines s.number k.answer) (none_granted (or_else (signature_lines s) (answer_lines s.number k.answer)) all) in
    closed.named z k key at among keyat
    (c.held s.signer z k.key h key r at keyat holds stands (has zones c (dnskey s.signer r) by z at (among_at z.dnskeys.items h r stands))) free.0 free.1
has zones c T (good_anew s z k at among all by) = λ closed.
    absurd (no_line (or_else (signature_lines s) (answer_lines s.number k.answer)) (consequence (is_zone_trusted z) s.number) all)

pub nothing_granted : (zones : List ZoneFacts) (n : ℕ) (z : ZoneFacts) → IsClosed zones → slice_get zones n ≡ Some z → IsGranted zones [] (zone n)
    → is_zone_trusted z ≡ true
nothing_granted zones n z c at by = has zones c (zone n) by z at

pub nothing_granted_of_rrset : (zones : List ZoneFacts) (r : RrsetFacts) → IsClosed zones → IsClosedRrset zones r → IsGranted zones [] (rrset r) → IsSignedRrset r
nothing_granted_of_rrset zones r c closed by = has zones c (rrset r) by closed
