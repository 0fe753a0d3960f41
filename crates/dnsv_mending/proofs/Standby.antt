-- The facts of a zone with a standby key are whole.
use Rattle.std.proofs.Common.{◌≡◌, ⊎_elim, ℕ, zero, suc, true, false, [], ◌∷◌, Some, None, refl, sym, ap, ◌∙◌, subst, slice_get, inl, ◌<◌, arith}
use Rattle.std.proofs.lemmas.Bool.{false≢true}
use Rattle.std.proofs.lemmas.Option.{same_Some}
use Rattle.std.specs.declared.alloc.Global.{Global}
use Rattle.dnsv_mending.specs.Examples.{delegated, ds_record, key, late_self, none, one, root, signed_by, standby, three, trusted, two, untrusted_key}
use Rattle.dnsv_mending.specs.Faults.{self_lines}
use Rattle.dnsv_mending.specs.InPlace.{IsHeld, IsInPlace, IsRrsetInPlace, IsSignerInPlace}
use Rattle.dnsv_mending.specs.Mend.{is_none}
use Rattle.dnsv_mending.specs.Reasons.{IsClosed, IsClosedRrset, IsClosedSignature, IsSelfSigned}
use Rattle.dnsv_mending.specs.Ways.{IsAmong}
use Rattle.dnsv_mending.specs.declared.facts.keys.DnskeyFacts.{DnskeyFacts}
use Rattle.dnsv_mending.specs.declared.facts.keys.HeldKey.{HeldKey}
use Rattle.dnsv_mending.specs.declared.facts.keys.SelfSignature.{SelfSignature}
use Rattle.dnsv_mending.specs.declared.facts.keys.VoucherFacts.{VoucherFacts}
use Rattle.dnsv_mending.specs.declared.facts.signature.NamedKey.{NamedKey}
use Rattle.dnsv_mending.specs.declared.facts.signature.SignatureFacts.{SignatureFacts}
use Rattle.dnsv_mending.specs.declared.facts.zone.DsFacts.{DsFacts}
use Rattle.dnsv_mending.specs.declared.facts.zone.ZoneFacts.{ZoneFacts}
use Rattle.dnsv_mending.specs.declared.facts.zone.ZoneKey.{ZoneKey}

none_some : {A : Type 0} (x : A) → None ≡ Some x → ⊥
none_some x h = cc

-- the one member of a list
only : {X : Type 0} (P : X → Type 0) (x y : X) → P y → IsAmong x (y ∷ []) → P x
only P x y holds among = ⊎_elim (λ (e : x ≡ y). subst P (sym e) holds) (λ (h : ⊥). absurd h) among

one_below_two : 1 < 2
one_below_two = omega arith

module _ (heap : Global) where
  abbrev shop : ZoneFacts
  shop = delegated heap (three heap (untrusted_key heap) (untrusted_key heap) (untrusted_key heap)) 3
      (three heap (key heap 3 1 33627 false (none heap)) (key heap 3 2 18923 false (none heap)) (key heap 3 3 48048 true (one heap (late_self 3 1))))
      (signed_by heap 2 1) (two heap (ds_record heap 2 1 18923 None (one heap 1)) (ds_record heap 2 2 48048 None (one heap 2)))

  -- what holds of each of the three zones
  each_zone : (P : ZoneFacts → Type 0) → P (root heap) → P (trusted heap) → P shop → (n : ℕ) (z : ZoneFacts) → slice_get (standby heap) n ≡ Some z → P z
  each_zone P a b c zero z h = subst P (same_Some (root heap) z h) a
  each_zone P a b c (suc zero) z h = subst P (same_Some (trusted heap) z h) b
  each_zone P a b c (suc (suc zero)) z h = subst P (same_Some shop z h) c
  each_zone P a b c (suc (suc (suc n))) z h = absurd (none_some z h)

  abbrev Signed : ZoneFacts → Type 0
  Signed z = (ds : DsFacts) → IsAmong ds z.ds.items → IsClosedRrset (standby heap) ds.rrset

  ds_signed : IsClosedRrset (standby heap) (signed_by heap 2 1)
  ds_signed s among = only (IsClosedSignature (standby heap)) s _ (record {
    named = λ z k each at among_keys there held lines answers. refl;
    unnamed = λ z at none lines. absurd (false≢true none);
  }) among

  signed : (n : ℕ) (z : ZoneFacts) → slice_get (standby heap) n ≡ Some z → Signed z
  signed = each_zone Signed (λ ds among. absurd among) (λ ds among. absurd among)
      (λ ds among. only (λ (each : DsFacts). IsClosedRrset (standby heap) each.rrset) ds _ ds_signed among)

  some_line : self_lines (key heap 3 3 48048 true (one heap (late_self 3 1))) (late_self 3 1) ≡ [] → ⊥
  some_line h = cc

  -- none of the keys signs
  not_self : (k : HeldKey) → IsAmong k (key heap 3 1 33627 false (none heap) ∷ key heap 3 2 18923 false (none heap)
      ∷ key heap 3 3 48048 true (one heap (late_self 3 1)) ∷ []) → IsSelfSigned k → ⊥
  not_self k among = ⊎_elim
      (λ (e : k ≡ key heap 3 1 33627 false (none heap)). subst (λ (each : HeldKey). IsSelfSigned each → ⊥) (sym e) (λ h. h.1))
      (λ (rest : IsAmong k (key heap 3 2 18923 false (none heap) ∷ key heap 3 3 48048 true (one heap (late_self 3 1)) ∷ [])). ⊎_elim
      (λ (e : k ≡ key heap 3 2 18923 false (none heap)). subst (λ (each : HeldKey). IsSelfSigned each → ⊥) (sym e) (λ h. h.1))
      (λ (last : IsAmong k (key heap 3 3 48048 true (one heap (late_self 3 1)) ∷ [])).
      only (λ (each : HeldKey). IsSelfSigned each → ⊥) k (key heap 3 3 48048 true (one heap (late_self 3 1)))
      (λ h. only (λ (s : SelfSignature). self_lines (key heap 3 3 48048 true (one heap (late_self 3 1))) s ≡ [] → ⊥) h.0 (late_self 3 1) some_line h.1 h.2) last) rest)
      among

  abbrev Delegated : ZoneFacts → Type 0
  Delegated z = (r : DnskeyFacts) (ds : DsFacts) (k : HeldKey) → IsAmong r z.dnskeys.items → IsAmong ds z.ds.items → IsAmong k r.keys.items → IsSelfSigned k
      → r.is_trusted ≡ true

  by_ds : (n : ℕ) (z : ZoneFacts) → slice_get (standby heap) n ≡ Some z → Delegated z
  by_ds = each_zone Delegated (λ r ds k among dsin keyin self. absurd among) (λ r ds k among dsin keyin self. absurd dsin)
      (λ r ds k among dsin. only (λ (each : DnskeyFacts). IsAmong k each.keys.items → IsSelfSigned k → each.is_trusted ≡ true) r _
      (λ keyin self. absurd (not_self k keyin self)) among)

  abbrev Anchored : ZoneFacts → Type 0
  Anchored z = (r : DnskeyFacts) → IsAmong r z.dnskeys.items → (v : VoucherFacts) → IsAmong v z.anchors.items → r.is_trusted ≡ true

  by_anchor : (n : ℕ) (z : ZoneFacts) → slice_get (standby heap) n ≡ Some z → Anchored z
  by_anchor = each_zone Anchored (λ r among v anchor. absurd among)
      (λ r among v anchor. only (λ (each : DnskeyFacts). each.is_trusted ≡ true) r _ refl among) (λ r among v anchor. absurd anchor)

  abbrev HeldKeys : ZoneFacts → Type 0
  HeldKeys z = (i h : ℕ) (key : ZoneKey) (r : DnskeyFacts) → slice_get z.keys.items i ≡ Some key → slice_get z.dnskeys.items h ≡ Some r → r.is_trusted ≡ true
      → key.is_trusted ≡ true

  trusted_keys : (i : ℕ) (each : ZoneKey) → slice_get ((trusted heap).keys.items) i ≡ Some each → each.is_trusted ≡ true
  trusted_keys zero each h = subst (λ (k : ZoneKey). k.is_trusted ≡ true) (same_Some _ each h) refl
  trusted_keys (suc i) each h = absurd (none_some each h)

  shop_set : (h : ℕ) (r : DnskeyFacts) → slice_get (shop.dnskeys.items) h ≡ Some r → r.is_trusted ≡ true → ⊥
  shop_set zero r at is = false≢true (ap (λ (each : DnskeyFacts). each.is_trusted) (same_Some _ r at) ∙ is)
  shop_set (suc h) r at is = none_some r at

  held_keys : (n : ℕ) (z : ZoneFacts) → slice_get (standby heap) n ≡ Some z → HeldKeys z
  held_keys = each_zone HeldKeys (λ i h each r at. absurd (none_some each at)) (λ i h each r at there is. trusted_keys i each at)
      (λ i h each r at there is. absurd (shop_set h r there is))

  pub closed : IsClosed (standby heap)
  closed = record {
    signed = λ n z ds at among. signed n z at ds among;
    anchored = λ n z r v k at among anchor why keyin fit self. by_anchor n z at r among v anchor;
    delegated = λ n z r ds v k at among dsin signed_rrset record_in why keyin fit self. by_ds n z at r ds k among dsin keyin self;
    held = λ n z i h each r at keyin holds stands is. held_keys n z at i h each r keyin stands is;
  }

  -- ---- in place

  -- what holds of each of the three zones, with its number of labels
  each_place : (P : ℕ → ZoneFacts → Type 0) → P 0 (root heap) → P 1 (trusted heap) → P 2 shop → (n : ℕ) (z : ZoneFacts)
      → slice_get (standby heap) n ≡ Some z → P n z
  each_place P a b c zero z h = subst (P 0) (same_Some (root heap) z h) a
  each_place P a b c (suc zero) z h = subst (P 1) (same_Some (trusted heap) z h) b
  each_place P a b c (suc (suc zero)) z h = subst (P 2) (same_Some shop z h) c
  each_place P a b c (suc (suc (suc n))) z h = absurd (none_some z h)

  abbrev Keyed : ℕ → ZoneFacts → Type 0
  Keyed n z = (r : DnskeyFacts) → IsAmong r z.dnskeys.items → is_none r.keys.items ≡ false

  abbrev AreHeld : ℕ → ZoneFacts → Type 0
  AreHeld n z = (each : ZoneKey) → IsAmong each z.keys.items → IsHeld z each

  abbrev ArePlaced : ℕ → ZoneFacts → Type 0
  ArePlaced n z = (ds : DsFacts) → IsAmong ds z.ds.items → IsRrsetInPlace (standby heap) n ds.rrset

  shop_held : IsHeld shop (untrusted_key heap)
  shop_held = record { h = 0; r = _; holds = inl refl; stands = refl }

  placed : (s : SignatureFacts) → IsAmong s ((signed_by heap 2 1).signatures.items) → s.faults.signer ≡ false → IsSignerInPlace (standby heap) 2 s
  placed s among by = only (IsSignerInPlace (standby heap) 2) s _ (record {
    z = trusted heap;
    above = one_below_two;
    is = refl;
    keys = λ k named. only (λ (each : NamedKey). (own : ZoneKey) × (slice_get ((trusted heap).keys.items) each.key ≡ Some own)) k _ (_, refl) named;
  }) among

  pub in_place : IsInPlace (standby heap)
  in_place = record {
    keyed = λ n z r at. each_place Keyed (λ each among. absurd among) (λ each among. only (λ (d : DnskeyFacts). is_none d.keys.items ≡ false) each _ refl among)
        (λ each among. only (λ (d : DnskeyFacts). is_none d.keys.items ≡ false) each _ refl among) n z at r;
    held = λ n z each at. each_place AreHeld (λ k among. absurd among)
        (λ k among. only (IsHeld (trusted heap)) k _ (record { h = 0; r = _; holds = inl refl; stands = refl }) among)
        (λ k among. ⊎_elim (λ (e : k ≡ untrusted_key heap). subst (IsHeld shop) (sym e) shop_held)
        (λ (rest : IsAmong k (untrusted_key heap ∷ untrusted_key heap ∷ [])). ⊎_elim (λ (e : k ≡ untrusted_key heap). subst (IsHeld shop) (sym e) shop_held)
        (λ (last : IsAmong k (untrusted_key heap ∷ [])). only (IsHeld shop) k (untrusted_key heap) shop_held last) rest) among) n z at each;
    signed = λ n z ds at. each_place ArePlaced (λ each among. absurd among) (λ each among. absurd among)
        (λ each among. only (λ (d : DsFacts). IsRrsetInPlace (standby heap) 2 d.rrset) each _ placed among) n z at ds;
  }
