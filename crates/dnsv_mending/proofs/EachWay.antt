-- Each way of a list is a single way, so what is kept as the cheapest is one.
use Rattle.std.proofs.Common.{◌≡◌, inl, inr, ⊎_elim, ℕ, ◌+◌, ◌++◌, ◌&&◌, Bool, true, false, if◌then◌else◌, List, [], ◌∷◌, Option, Some, None, map, length, flat_map, append_assoc, refl, sym, ap, ◌∙◌, subst, slice_get}
use Rattle.std.proofs.lemmas.List.{length-append}
use Rattle.std.proofs.lemmas.Option.{same_Some}
use Rattle.std.specs.List.{AllByRecursion}
use Rattle.dnsv_lines.specs.declared.line.fault.zone.WhyZone.TheVariants as why
use Rattle.dnsv_mending.specs.Faults.{lines_under, signature_lines, unnamed_lines}
use Rattle.dnsv_mending.specs.Keys.{fits, fitting_way, group_ways, is_missing_by, is_served, self_way, self_ways, signing, signings, unsigned_way, voucher_fault, voucher_ways}
use Rattle.dnsv_mending.specs.Level.{Held, Leveled, zone_above}
use Rattle.dnsv_mending.specs.Mend.{Mended, after, both, cheapest, fault, following, is_none, joined, nothing, telling, untold, with_fault}
use Rattle.dnsv_mending.specs.Rrset.{held_way, held_ways, rrset_ways, signature_ways, signer_ways, unheld_way, unheld_ways}
use Rattle.dnsv_mending.specs.Ways.{IsAmong, IsCounted, IsWay}
use Rattle.dnsv_mending.specs.Ways.IsWay.{zone_trusted, zone_unanchored, zone_by, zone_without, lead_missing, lead_anchor, lead_ds, dnskey_trusted, dnskey_unanchored, dnskey_by_anchor, dnskey_by_ds, dnskey_unvouched, signs_none, signs_by, rrset_unsigned, rrset_by, signature_signed, signature_of_another, signature_unnamed, signature_held, signature_unheld}
use Rattle.dnsv_mending.specs.Ways.Thing.{zone, lead, dnskey, signs, rrset, signature}
use Rattle.dnsv_mending.specs.Zone.{Standing, anchor_ways, anchored_ways, anchored_zone_ways, chain_of, chains_of, dnskey_mend, dnskey_ways, ds_ways, has_none, held, holder_ways, is_vouched, is_zone_trusted, kept_ways, lead_ways, level_of, level_over, levels_from, levels_of, mend_at, not_vouched, standing_of, unanchored, unvouched_ways, zone_ways}
use Rattle.dnsv_mending.specs.declared.facts.keys.DnskeyFacts.{DnskeyFacts}
use Rattle.dnsv_mending.specs.declared.facts.keys.HeldKey.{HeldKey}
use Rattle.dnsv_mending.specs.declared.facts.keys.VoucherFacts.{VoucherFacts}
use Rattle.dnsv_mending.specs.declared.facts.signature.NamedKey.{NamedKey}
use Rattle.dnsv_mending.specs.declared.facts.signature.RrsetFacts.{RrsetFacts}
use Rattle.dnsv_mending.specs.declared.facts.signature.SignatureFacts.{SignatureFacts}
use Rattle.dnsv_mending.specs.declared.facts.zone.DsFacts.{DsFacts}
use Rattle.dnsv_mending.specs.declared.facts.zone.ZoneFacts.{ZoneFacts}
use Rattle.dnsv_mending.specs.declared.facts.zone.ZoneKey.{ZoneKey}
use Rattle.dnsv_mending.specs.declared.price.Class.TheVariants as class
use Rattle.dnsv_mending.specs.declared.told.Told.TheVariants as told
use Rattle.dnsv_mending.proofs.AllWays.{all_after, all_append, all_flat, all_if, all_joined, all_map, all_mapped, all_ways_of, at_end, at_seam, kept_some, mapped_at, none_some, of_cheapest}

-- ---- what is kept of zones

-- a DNSKEY RRset that holds the key
pub record HeldBy (zones : List ZoneFacts) (n : ℕ) (z : ZoneFacts) (key : ZoneKey) (m : Mended) : Type 0 where
  pub h : ℕ
  pub r : DnskeyFacts
  pub holds : IsAmong h key.holders.items
  pub stands : slice_get z.dnskeys.items h ≡ Some r
  pub by : IsWay zones (dnskey n r) m

pub record GoodKey (zones : List ZoneFacts) (n : ℕ) (z : ZoneFacts) (i : ℕ) (k : Held) : Type 0 where
  pub key : ZoneKey
  pub is : slice_get z.keys.items i ≡ Some key
  pub trusted : k.is_trusted ≡ key.is_trusted
  pub way : (m : Mended) → k.mend ≡ Some m → HeldBy zones n z key m

pub record GoodLevel (zones : List ZoneFacts) (n : ℕ) (level : Leveled) : Type 0 where
  pub z : ZoneFacts
  pub is : slice_get zones n ≡ Some z
  pub by : (m : Mended) → level.zone ≡ Some m → IsWay zones (zone n) m
  pub trusted : level.is_trusted ≡ is_zone_trusted z
  pub keys : (i : ℕ) (k : Held) → slice_get level.keys i ≡ Some k → GoodKey zones n z i k

abbrev pub AreGood : List ZoneFacts → List Leveled → Type 0
AreGood zones levels = (n : ℕ) (level : Leveled) → slice_get levels n ≡ Some level → GoodLevel zones n level

module _ (zones : List ZoneFacts) (levels : List Leveled) (good : AreGood zones levels) where
  held_case : (s : SignatureFacts) (k : NamedKey) (level : Leveled) (g : GoodLevel zones s.signer level) → IsAmong k s.keys.items
      → (o : Option Held) → slice_get level.keys k.key ≡ o → AllByRecursion (IsWay zones (signature s)) (held_way level.is_trusted s k o)
  held_case s k level g among None e = tt
  held_case s k level g among (Some kept) e =
      let key = g.keys k.key kept e in
      all_after (IsWay zones (signature s)) kept.mend (telling (lines_under level.is_trusted s k)) (λ m is.
      let by = key.way m is in
      signature_held s g.z k key.key by.h by.r level.is_trusted m g.is among key.is by.holds by.stands g.trusted by.by)

  unheld_case : (s : SignatureFacts) (k : NamedKey) (level : Leveled) (g : GoodLevel zones s.signer level) → IsAmong k s.keys.items
      → (o : Option Held) → slice_get level.keys k.key ≡ o → AllByRecursion (IsWay zones (signature s)) (unheld_way level s k o)
  unheld_case s k level g among None at = tt
  unheld_case s k level g among (Some kept) at =
      let key = g.keys k.key kept at in
      all_if (IsWay zones (signature s)) kept.is_trusted [] (after level.zone (both (telling (lines_under level.is_trusted s k)) (untold class.NotFitting)))
      (λ e. tt) (λ e. all_after (IsWay zones (signature s)) level.zone (both (telling (lines_under level.is_trusted s k)) (untold class.NotFitting))
      (λ m is. signature_unheld s g.z k key.key level.is_trusted m g.is among key.is (sym key.trusted ∙ e) g.trusted (g.by m is)))

  held_each : (s : SignatureFacts) (level : Leveled) (g : GoodLevel zones s.signer level) (k : NamedKey) → IsAmong k s.keys.items
      → AllByRecursion (IsWay zones (signature s)) (held_ways level s k)
  unfolding held_ways
  held_each s level g k among = held_case s k level g among (slice_get level.keys k.key) refl

  unheld_each : (s : SignatureFacts) (level : Leveled) (g : GoodLevel zones s.signer level) (k : NamedKey) → IsAmong k s.keys.items
      → AllByRecursion (IsWay zones (signature s)) (unheld_ways level s k)
  unfolding unheld_ways
  unheld_each s level g k among = unheld_case s k level g among (slice_get level.keys k.key) refl

  signer_each : (s : SignatureFacts) (o : Option Leveled) → slice_get levels s.signer ≡ o
      → AllByRecursion (IsWay zones (signature s)) (signer_ways s o)
  signer_each s None e = tt
  signer_each s (Some level) e =
      let g = good s.signer level e in
      all_if (IsWay zones (signature s)) (is_none s.keys.items) (after level.zone (telling (unnamed_lines s)))
      (flat_map (held_ways level s) s.keys.items ++ flat_map (unheld_ways level s) s.keys.items)
      (λ none. all_after (IsWay zones (signature s)) level.zone (telling (unnamed_lines s)) (λ m is. signature_unnamed s g.z m g.is none (g.by m is)))
      (λ some. all_append (IsWay zones (signature s)) (flat_map (held_ways level s) s.keys.items) (flat_map (unheld_ways level s) s.keys.items)
      (all_flat (IsWay zones (signature s)) (held_ways level s) s.keys.items (held_each s level g))
      (all_flat (IsWay zones (signature s)) (unheld_ways level s) s.keys.items (unheld_each s level g)))

  pub signature_each : (above : Option Mended) (s : SignatureFacts) → AllByRecursion (IsWay zones (signature s)) (signature_ways levels above s)
  unfolding signature_ways
  signature_each above s =
      all_if (IsWay zones (signature s)) s.is_signed (nothing ∷ [])
      (if s.faults.signer then after above (telling (signature_lines s)) else signer_ways s (slice_get levels s.signer))
      (λ e. (signature_signed s e, tt))
      (λ kept. all_if (IsWay zones (signature s)) s.faults.signer (after above (telling (signature_lines s))) (signer_ways s (slice_get levels s.signer))
      (λ e. all_after (IsWay zones (signature s)) above (telling (signature_lines s)) (λ m is. signature_of_another s m e))
      (λ other. signer_each s (slice_get levels s.signer) refl))

  pub rrset_each : (above : Option Mended) (r : RrsetFacts) → AllByRecursion (IsWay zones (rrset r)) (rrset_ways levels above r)
  rrset_each above r =
      all_if (IsWay zones (rrset r)) (is_none r.signatures.items) (after above (fault (told.Unsigned r.number)))
      (flat_map (signature_ways levels above) r.signatures.items)
      (λ none. all_after (IsWay zones (rrset r)) above (fault (told.Unsigned r.number)) (λ m is. rrset_unsigned r m none))
      (λ some. all_flat (IsWay zones (rrset r)) (signature_ways levels above) r.signatures.items
      (λ s among. all_map (IsWay zones (signature s)) (IsWay zones (rrset r)) (λ m by. rrset_by r s m among by) (signature_ways levels above s) (signature_each above s)))

-- ---- DNSKEY RRsets

self_each : (zones : List ZoneFacts) (r : DnskeyFacts) (k : HeldKey) → AllByRecursion (IsWay zones (signs r k)) (self_ways r k)
unfolding self_way
self_each zones r k =
    all_if (IsWay zones (signs r k)) (is_none k.signatures.items) (unsigned_way r k ∷ []) (flat_map (self_way k) k.signatures.items)
    (λ none. (signs_none r k none, tt))
    (λ some. all_flat (IsWay zones (signs r k)) (self_way k) k.signatures.items (λ s among. (signs_by r k s among, tt)))

signing_way : (zones : List ZoneFacts) (r : DnskeyFacts) (k : HeldKey) (m : Mended) → (signing r k).mend ≡ Some m → IsWay zones (signs r k) m
unfolding signing
signing_way zones r k m is = of_cheapest (IsWay zones (signs r k)) (self_ways r k) m (self_each zones r k) is

fitting_each : (P : Mended → Type 0) (zones : List ZoneFacts) (r : DnskeyFacts) (chain : Option Mended) (v : VoucherFacts) (k : HeldKey)
    → ((c m : Mended) → chain ≡ Some c → fits v (signing r k) ≡ true → IsWay zones (signs r k) m → P (following c (with_fault (voucher_fault v) m)))
    → AllByRecursion P (fitting_way chain v (signing r k))
unfolding fitting_way
fitting_each P zones r chain v k each =
    all_if P (fits v (signing r k)) (joined chain (voucher_fault v) (signing r k).mend) []
    (λ e. all_joined P chain (voucher_fault v) (signing r k).mend (λ c m first second. each c m first e (signing_way zones r k m second)))
    (λ other. tt)

voucher_each : (P : Mended → Type 0) (zones : List ZoneFacts) (r : DnskeyFacts) (chain : Option Mended) (served : Bool) (v : VoucherFacts)
    → ((k : HeldKey) (c m : Mended) → (is_missing_by v.why && served) ≡ false → IsAmong k r.keys.items → chain ≡ Some c
    → fits v (signing r k) ≡ true → IsWay zones (signs r k) m → P (following c (with_fault (voucher_fault v) m)))
    → AllByRecursion P (voucher_ways chain served (signings r) v)
unfolding voucher_ways
voucher_each P zones r chain served v each =
    all_if P (is_missing_by v.why && served) [] (flat_map (fitting_way chain v) (signings r)) (λ e. tt)
    (λ other. all_mapped P (signing r) (fitting_way chain v) r.keys.items
    (λ k among. fitting_each P zones r chain v k (λ c m first fit by. each k c m other among first fit by)))

group_each : (P : Mended → Type 0) (zones : List ZoneFacts) (r : DnskeyFacts) (chain : Option Mended) (group : List VoucherFacts)
    → ((v : VoucherFacts) (k : HeldKey) (c m : Mended) → IsAmong v group → IsCounted r group v → IsAmong k r.keys.items → chain ≡ Some c → fits v (signing r k) ≡ true
    → IsWay zones (signs r k) m → P (following c (with_fault (voucher_fault v) m)))
    → AllByRecursion P (group_ways chain (signings r) group)
group_each P zones r chain group each =
    all_flat P (voucher_ways chain (is_served group (signings r)) (signings r)) group
    (λ v among. voucher_each P zones r chain (is_served group (signings r)) v (λ k c m. each v k c m among))

-- each DS RRset from the place on has its chain there
abbrev AreChains : List ZoneFacts → List (Option Mended) → ℕ → List DsFacts → Type 0
AreChains zones chains place [] = Unit {0}
AreChains zones chains place (ds ∷ dss) = ((c : Mended) → mend_at chains place ≡ Some c → IsWay zones (rrset ds.rrset) c) × AreChains zones chains (place + 1) dss

ds_each : (zones : List ZoneFacts) (n : ℕ) (z : ZoneFacts) (r : DnskeyFacts) (chains : List (Option Mended)) (place : ℕ) (dss : List DsFacts)
    → slice_get zones n ≡ Some z → ((ds : DsFacts) → IsAmong ds dss → IsAmong ds z.ds.items) → AreChains zones chains place dss
    → AllByRecursion (IsWay zones (dnskey n r)) (ds_ways (signings r) chains place dss)
ds_each zones n z r chains place [] is those are = tt
ds_each zones n z r chains place (ds ∷ dss) is those are =
    all_append (IsWay zones (dnskey n r)) (group_ways (mend_at chains place) (signings r) ds.records.items) (ds_ways (signings r) chains (place + 1) dss)
    (group_each (IsWay zones (dnskey n r)) zones r (mend_at chains place) ds.records.items
    (λ v k c m among counted key first fit by. dnskey_by_ds n z r ds v k c m is (those ds (inl refl)) (are.0 c first) among counted key fit by))
    (ds_each zones n z r chains (place + 1) dss is (λ other among. those other (inr among)) are.1)

-- what a zone stands on is made of single ways
record Stands (zones : List ZoneFacts) (n : ℕ) (z : ZoneFacts) (s : Standing) : Type 0 where
  labels : s.labels ≡ n
  anchored : s.is_anchored ≡ true
  pub is : slice_get zones n ≡ Some z
  lead : (m : Mended) → s.lead ≡ Some m → IsWay zones (lead n) m
  chains : AreChains zones s.chains 0 z.ds.items

anchor_chain : (c : Mended) → Some nothing ≡ Some c → nothing ≡ c
anchor_chain c h = same_Some nothing c h

unvouched_each : (zones : List ZoneFacts) (n : ℕ) (z : ZoneFacts) (s : Standing) (st : Stands zones n z s) (r : DnskeyFacts)
    → is_vouched z (signings r) ≡ false → (k : HeldKey) → IsAmong k r.keys.items
    → AllByRecursion (IsWay zones (dnskey n r)) (unvouched_ways s.lead (not_vouched z r) (signing r k))
unfolding unvouched_ways
unvouched_each zones n z s st r unfit k among =
    all_joined (IsWay zones (dnskey n r)) s.lead (not_vouched z r) (signing r k).mend
    (λ c m first second. dnskey_unvouched n z r k c m st.is unfit (st.lead c first) among (signing_way zones r k m second))

anchored_each : (zones : List ZoneFacts) (n : ℕ) (z : ZoneFacts) (s : Standing) (st : Stands zones n z s) (r : DnskeyFacts)
    → AllByRecursion (IsWay zones (dnskey n r)) (anchored_ways s z r (signings r))
anchored_each zones n z s st r =
    all_if (IsWay zones (dnskey n r)) (is_vouched z (signings r))
    (group_ways (Some nothing) (signings r) z.anchors.items ++ ds_ways (signings r) s.chains 0 z.ds.items)
    (flat_map (unvouched_ways s.lead (not_vouched z r)) (signings r))
    (λ e. all_append (IsWay zones (dnskey n r)) (group_ways (Some nothing) (signings r) z.anchors.items) (ds_ways (signings r) s.chains 0 z.ds.items)
    (group_each (IsWay zones (dnskey n r)) zones r (Some nothing) z.anchors.items
    (λ v k c m among counted key first fit by. subst (λ (each : Mended). IsWay zones (dnskey n r) (following each (with_fault (voucher_fault v) m))) (anchor_chain c first)
    (dnskey_by_anchor n z r v k m st.is among counted key fit by)))
    (ds_each zones n z r s.chains 0 z.ds.items st.is (λ ds among. among) st.chains))
    (λ other. all_mapped (IsWay zones (dnskey n r)) (signing r) (unvouched_ways s.lead (not_vouched z r)) r.keys.items (unvouched_each zones n z s st r other))

unanchored_zone : (zones : List ZoneFacts) (n : ℕ) (z : ZoneFacts) (s : Standing) → Stands zones n z s → z.is_anchored ≡ false → IsWay zones (zone n) (unanchored s)
unanchored_zone zones n z s st e =
    subst (λ (t : Bool). IsWay zones (zone n) (if t then fault (told.Zone why.NoAnchor s.labels) else nothing)) (sym st.anchored)
    (subst (λ (l : ℕ). IsWay zones (zone n) (fault (told.Zone why.NoAnchor l))) (sym st.labels) (zone_unanchored n z st.is e))

unanchored_dnskey : (zones : List ZoneFacts) (n : ℕ) (z : ZoneFacts) (s : Standing) (r : DnskeyFacts) → Stands zones n z s → z.is_anchored ≡ false → IsWay zones (dnskey n r) (unanchored s)
unanchored_dnskey zones n z s r st e =
    subst (λ (t : Bool). IsWay zones (dnskey n r) (if t then fault (told.Zone why.NoAnchor s.labels) else nothing)) (sym st.anchored)
    (subst (λ (l : ℕ). IsWay zones (dnskey n r) (fault (told.Zone why.NoAnchor l))) (sym st.labels) (dnskey_unanchored n z r st.is e))

dnskey_each : (zones : List ZoneFacts) (n : ℕ) (z : ZoneFacts) (s : Standing) (st : Stands zones n z s) (r : DnskeyFacts)
    → AllByRecursion (IsWay zones (dnskey n r)) (dnskey_ways s z r)
dnskey_each zones n z s st r =
    all_if (IsWay zones (dnskey n r)) r.is_trusted (nothing ∷ []) (if z.is_anchored then anchored_ways s z r (signings r) else unanchored s ∷ [])
    (λ e. (dnskey_trusted n r e, tt))
    (λ other. all_if (IsWay zones (dnskey n r)) z.is_anchored (anchored_ways s z r (signings r)) (unanchored s ∷ [])
    (λ e. anchored_each zones n z s st r) (λ e. (unanchored_dnskey zones n z s r st e, tt)))

dnskey_kept : (zones : List ZoneFacts) (n : ℕ) (z : ZoneFacts) (s : Standing) (st : Stands zones n z s) (r : DnskeyFacts) (m : Mended)
    → dnskey_mend s z r ≡ Some m → IsWay zones (dnskey n r) m
unfolding dnskey_mend
dnskey_kept zones n z s st r m is = of_cheapest (IsWay zones (dnskey n r)) (dnskey_ways s z r) m (dnskey_each zones n z s st r) is

-- ---- zones

-- a DNSKEY RRset, as one that is kept
set_kept : (zones : List ZoneFacts) (n : ℕ) (z : ZoneFacts) (s : Standing) (st : Stands zones n z s) (h : ℕ) (m : Mended)
    → mend_at (map (dnskey_mend s z) z.dnskeys.items) h ≡ Some m → (r : DnskeyFacts) × (slice_get z.dnskeys.items h ≡ Some r) × IsWay zones (dnskey n r) m
set_kept zones n z s st h m is =
    let at = mapped_at (dnskey_mend s z) z.dnskeys.items h (Some m) (kept_some (slice_get (map (dnskey_mend s z) z.dnskeys.items) h) m is) in
    (at.from, at.is, dnskey_kept zones n z s st at.from m at.same)

zone_each_set : (zones : List ZoneFacts) (n : ℕ) (z : ZoneFacts) (s : Standing) (st : Stands zones n z s) (r : DnskeyFacts) → IsAmong r z.dnskeys.items
    → AllByRecursion (IsWay zones (zone n)) (kept_ways (dnskey_mend s z r))
unfolding kept_ways
zone_each_set zones n z s st r among =
    all_ways_of (IsWay zones (zone n)) (dnskey_mend s z r) (λ m is. zone_by n z r m st.is among (dnskey_kept zones n z s st r m is))

zone_each : (zones : List ZoneFacts) (n : ℕ) (z : ZoneFacts) (s : Standing) (st : Stands zones n z s)
    → AllByRecursion (IsWay zones (zone n)) (zone_ways s z (map (dnskey_mend s z) z.dnskeys.items))
zone_each zones n z s st =
    let sets = map (dnskey_mend s z) z.dnskeys.items in
    all_if (IsWay zones (zone n)) (is_zone_trusted z) (nothing ∷ []) (if z.is_anchored then anchored_zone_ways s z sets else unanchored s ∷ [])
    (λ e. (zone_trusted n z st.is e, tt))
    (λ other. all_if (IsWay zones (zone n)) z.is_anchored (anchored_zone_ways s z sets) (unanchored s ∷ [])
    (λ e. all_if (IsWay zones (zone n)) (is_none z.dnskeys.items) (after s.lead (fault (told.Zone why.DnskeyMissing s.labels))) (flat_map kept_ways sets)
    (λ none. all_after (IsWay zones (zone n)) s.lead (fault (told.Zone why.DnskeyMissing s.labels))
    (λ m is. subst (λ (l : ℕ). IsWay zones (zone n) (following m (fault (told.Zone why.DnskeyMissing l)))) (sym st.labels) (zone_without n z m st.is none (st.lead m is))))
    (λ some. all_mapped (IsWay zones (zone n)) (dnskey_mend s z) kept_ways z.dnskeys.items (zone_each_set zones n z s st)))
    (λ e. (unanchored_zone zones n z s st e, tt)))

-- a key of the zone
holder_each : (zones : List ZoneFacts) (n : ℕ) (z : ZoneFacts) (s : Standing) (st : Stands zones n z s) (key : ZoneKey) (h : ℕ) → IsAmong h key.holders.items
    → AllByRecursion (HeldBy zones n z key) (holder_ways (map (dnskey_mend s z) z.dnskeys.items) h)
unfolding holder_ways
holder_each zones n z s st key h among =
    let sets = map (dnskey_mend s z) z.dnskeys.items in
    all_ways_of (HeldBy zones n z key) (mend_at sets h) (λ m is.
    let found = set_kept zones n z s st h m is in
    record { h = h; r = found.0; holds = among; stands = found.1; by = found.2 })

key_kept : (zones : List ZoneFacts) (n : ℕ) (z : ZoneFacts) (s : Standing) (st : Stands zones n z s) (key : ZoneKey) (m : Mended)
    → (held (map (dnskey_mend s z) z.dnskeys.items) key).mend ≡ Some m → HeldBy zones n z key m
unfolding held
key_kept zones n z s st key m is =
    let sets = map (dnskey_mend s z) z.dnskeys.items in
    of_cheapest (HeldBy zones n z key) (flat_map (holder_ways sets) key.holders.items) m
    (all_flat (HeldBy zones n z key) (holder_ways sets) key.holders.items (holder_each zones n z s st key)) is

held_trusted : (sets : List (Option Mended)) (key : ZoneKey) → key.is_trusted ≡ (held sets key).is_trusted
unfolding held
held_trusted sets key = refl

key_good : (zones : List ZoneFacts) (n : ℕ) (z : ZoneFacts) (s : Standing) (st : Stands zones n z s) (i : ℕ) (k : Held)
    → slice_get (map (held (map (dnskey_mend s z) z.dnskeys.items)) z.keys.items) i ≡ Some k → GoodKey zones n z i k
key_good zones n z s st i k is =
    let sets = map (dnskey_mend s z) z.dnskeys.items in
    let at = mapped_at (held sets) z.keys.items i k is in
    record { key = at.from; is = at.is; trusted = sym (held_trusted sets at.from ∙ ap (λ (each : Held). each.is_trusted) at.same); way = λ m e. key_kept zones n z s st at.from m (ap (λ (each : Held). each.mend) at.same ∙ e) }

level_good : (zones : List ZoneFacts) (n : ℕ) (z : ZoneFacts) (s : Standing) (st : Stands zones n z s) → GoodLevel zones n (level_of s z)
level_good zones n z s st = record {
  z = z;
  is = st.is;
  by = λ m is. of_cheapest (IsWay zones (zone n)) (zone_ways s z (map (dnskey_mend s z) z.dnskeys.items)) m (zone_each zones n z s st) is;
  trusted = refl;
  keys = key_good zones n z s st;
}

-- ---- what a zone stands on

module _ (zones : List ZoneFacts) (levels : List Leveled) (good : AreGood zones levels) where
  chain_kept : (ds : DsFacts) (c : Mended) → chain_of levels ds ≡ Some c → IsWay zones (rrset ds.rrset) c
  unfolding chain_of
  chain_kept ds c is =
      of_cheapest (IsWay zones (rrset ds.rrset)) (rrset_ways levels (zone_above levels) ds.rrset) c (rrset_each zones levels good (zone_above levels) ds.rrset) is

  next_chains : (front : List DsFacts) (ds : DsFacts) (dss : List DsFacts) → AreChains zones (map (chain_of levels) ((front ++ ds ∷ []) ++ dss)) (length (front ++ ds ∷ [])) dss
      → AreChains zones (map (chain_of levels) (front ++ ds ∷ dss)) (length front + 1) dss
  next_chains front ds dss are =
      subst (λ (place : ℕ). AreChains zones (map (chain_of levels) (front ++ ds ∷ dss)) place dss) (length-append front (ds ∷ []))
      (subst (λ (all : List DsFacts). AreChains zones (map (chain_of levels) all) (length (front ++ ds ∷ [])) dss) (append_assoc front (ds ∷ []) dss) are)

  chains_good : (front dss : List DsFacts) → AreChains zones (map (chain_of levels) (front ++ dss)) (length front) dss
  chains_good front [] = tt
  chains_good front (ds ∷ dss) = (
    λ c is. chain_kept ds c (let at = mapped_at (chain_of levels) (front ++ ds ∷ dss) (length front) (Some c)
        (kept_some (slice_get (map (chain_of levels) (front ++ ds ∷ dss)) (length front)) c is) in
        ap (chain_of levels) (same_Some ds at.from (sym (at_seam front ds dss) ∙ at.is)) ∙ at.same),
    next_chains front ds dss (chains_good (front ++ ds ∷ []) dss),
  )

  lead_each : (n : ℕ) (z : ZoneFacts) → slice_get zones n ≡ Some z → AllByRecursion (IsWay zones (lead n)) (lead_ways n levels z (chains_of levels z))
  unfolding anchor_ways kept_ways
  lead_each n z is =
      all_if (IsWay zones (lead n)) (has_none z) (after (zone_above levels) (fault (told.Zone why.DsMissing n)))
      (flat_map anchor_ways z.anchors.items ++ flat_map kept_ways (chains_of levels z))
      (λ none. all_after (IsWay zones (lead n)) (zone_above levels) (fault (told.Zone why.DsMissing n)) (λ m e. lead_missing n z m is none))
      (λ some. all_append (IsWay zones (lead n)) (flat_map anchor_ways z.anchors.items) (flat_map kept_ways (chains_of levels z))
      (all_flat (IsWay zones (lead n)) anchor_ways z.anchors.items (λ v among. (lead_anchor n z v is among, tt)))
      (all_mapped (IsWay zones (lead n)) (chain_of levels) kept_ways z.ds.items
      (λ ds among. all_ways_of (IsWay zones (lead n)) (chain_of levels ds) (λ m e. lead_ds n z ds m is among (chain_kept ds m e)))))

  standing_good : (z : ZoneFacts) → slice_get zones (length levels) ≡ Some z → Stands zones (length levels) z (standing_of true levels z)
  standing_good z is = record {
    labels = refl;
    anchored = refl;
    is = is;
    lead = λ m e. of_cheapest (IsWay zones (lead (length levels))) (lead_ways (length levels) levels z (chains_of levels z)) m (lead_each (length levels) z is) e;
    chains = chains_good [] z.ds.items;
  }

  next_good : (z : ZoneFacts) → slice_get zones (length levels) ≡ Some z → AreGood zones (levels ++ level_over true levels z ∷ [])
  unfolding level_over
  next_good z is n level at = ⊎_elim
      (λ (e : slice_get levels n ≡ Some level). good n level e)
      (λ (e : (n ≡ length levels) × (level ≡ level_over true levels z)).
      subst (λ (l : Leveled). GoodLevel zones n l) (sym e.1) (subst (λ (i : ℕ). GoodLevel zones i (level_over true levels z)) (sym e.0)
      (level_good zones (length levels) z (standing_of true levels z) (standing_good z is))))
      (at_end levels (level_over true levels z) n level at)

levels_good : (zones front rest : List ZoneFacts) (levels : List Leveled) → zones ≡ front ++ rest → length levels ≡ length front → AreGood zones levels
    → AreGood zones (levels_from true levels rest)
levels_good zones front [] levels whole size good = good
levels_good zones front (z ∷ rest) levels whole size good =
    levels_good zones (front ++ z ∷ []) rest (levels ++ level_over true levels z ∷ []) (whole ∙ sym (append_assoc front (z ∷ []) rest))
    (length-append levels (level_over true levels z ∷ []) ∙ ap (λ n. n + 1) size ∙ sym (length-append front (z ∷ [])))
    (next_good zones levels good z (ap (slice_get zones) size ∙ ap (λ (each : List ZoneFacts). slice_get each (length front)) whole ∙ at_seam front z rest))

no_levels : (zones : List ZoneFacts) → AreGood zones []
no_levels zones n level h = absurd (none_some level h)

-- what is kept of a zone is a single way to it
pub zone_way : (zones : List ZoneFacts) (n : ℕ) (level : Leveled) (m : Mended) → slice_get (levels_of true zones) n ≡ Some level → level.zone ≡ Some m
    → IsWay zones (zone n) m
zone_way zones n level m at is = (levels_good zones [] zones [] refl refl (no_levels zones) n level at).by m is

-- so is what is found of an RRset
pub rrset_way : (zones : List ZoneFacts) (above : Option Mended) (r : RrsetFacts) (m : Mended) → cheapest (rrset_ways (levels_of true zones) above r) ≡ Some m
    → IsWay zones (rrset r) m
rrset_way zones above r m is =
    of_cheapest (IsWay zones (rrset r)) (rrset_ways (levels_of true zones) above r) m
    (rrset_each zones (levels_of true zones) (levels_good zones [] zones [] refl refl (no_levels zones)) above r) is
