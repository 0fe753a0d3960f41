-- Where facts are in place, something always leads to a zone with an anchor at or above the name that is asked for.
use Rattle.std.proofs.Common.{◌≡◌, inl, inr, ⊎_elim, ℕ, ◌+◌, ◌++◌, ◌&&◌, Bool, true, false, if◌then◌else◌, List, [], ◌∷◌, Option, Some, None, map, length, flat_map, append_assoc, refl, sym, ap, ◌∙◌, subst, arith, slice_get}
use Rattle.std.proofs.lemmas.Bool.{false≢true}
use Rattle.std.proofs.lemmas.List.{length-append}
use Rattle.std.proofs.lemmas.Option.{slice_get-map}
use Rattle.std.specs.List.{list_any}
use Rattle.std.specs.Option.{option_map}
use Rattle.dnsv_lines.specs.declared.line.fault.zone.WhyEntry.{WhyEntry}
use Rattle.dnsv_lines.specs.declared.line.fault.zone.WhyEntry.TheVariants as entry_why
use Rattle.dnsv_lines.specs.declared.line.fault.zone.WhyZone.TheVariants as why
use Rattle.dnsv_mending.specs.Faults.{lines_under, signature_lines, unnamed_lines}
use Rattle.dnsv_mending.specs.InPlace.{IsHeld, IsInPlace, IsRrsetInPlace, IsSignerInPlace}
use Rattle.dnsv_mending.specs.Keys.{Signing, fits, fitting_way, group_ways, is_missing_by, is_near_by, is_served, self_way, self_ways, signing, signings, unsigned_way, voucher_fault, voucher_ways}
use Rattle.dnsv_mending.specs.Level.{Held, Leveled, above_from, zone_above}
use Rattle.dnsv_mending.specs.Mend.{Mended, after, cheapest, fault, is_none, joined, nothing, telling}
use Rattle.dnsv_mending.specs.Rrset.{held_way, held_ways, named_ways, rrset_ways, signature_ways, signer_ways, unheld_ways}
use Rattle.dnsv_mending.specs.Ways.{IsAmong}
use Rattle.dnsv_mending.specs.Zone.{Standing, anchor_ways, anchored_ways, anchored_zone_ways, chain_of, chains_of, dnskey_mend, dnskey_ways, ds_ways, has_none, held, holder_ways, is_fitted, is_vouched, is_zone_trusted, kept_at, kept_ways, lead_ways, level_of, level_over, levels_from, levels_of, mend_at, not_vouched, standing_of, unanchored, unvouched_ways, zone_ways}
use Rattle.dnsv_mending.specs.declared.facts.keys.DnskeyFacts.{DnskeyFacts}
use Rattle.dnsv_mending.specs.declared.facts.keys.HeldKey.{HeldKey}
use Rattle.dnsv_mending.specs.declared.facts.keys.VoucherFacts.{VoucherFacts}
use Rattle.dnsv_mending.specs.declared.facts.signature.NamedKey.{NamedKey}
use Rattle.dnsv_mending.specs.declared.facts.signature.RrsetFacts.{RrsetFacts}
use Rattle.dnsv_mending.specs.declared.facts.signature.SignatureFacts.{SignatureFacts}
use Rattle.dnsv_mending.specs.declared.facts.zone.DsFacts.{DsFacts}
use Rattle.dnsv_mending.specs.declared.facts.zone.ZoneFacts.{ZoneFacts}
use Rattle.dnsv_mending.specs.declared.facts.zone.ZoneKey.{ZoneKey}
use Rattle.dnsv_mending.specs.declared.told.Told.TheVariants as told
use Rattle.dnsv_mending.proofs.SomeWays.{There, at_within, either_false, either_true, first_of, mapped_among, passing, place_of, some_after, some_flat, some_if, some_joined, some_kept, some_left, some_mapped, some_right, there}
use Rattle.dnsv_mending.proofs.AllWays.{among_at, at_end, at_seam}
use Rattle.dnsv_mending.proofs.Reasons.{both_true, same_zone}

-- ---- DNSKEY RRsets

signing_there : (r : DnskeyFacts) (k : HeldKey) → There ((signing r k).mend)
unfolding signing self_way
signing_there r k = there (self_ways r k) (some_if (is_none k.signatures.items) (unsigned_way r k ∷ []) (flat_map (self_way k) k.signatures.items)
    (λ none. refl) (λ some. let s = first_of k.signatures.items some in some_flat (self_way k) k.signatures.items s.x s.among refl))

near_counts : (w : Option WhyEntry) → is_near_by w ≡ true → is_missing_by w ≡ false
near_counts None h = refl
near_counts (Some entry_why.DigestDiffers) h = refl
near_counts (Some entry_why.KeyAlgorithm) h = refl
near_counts (Some entry_why.KeyMissing) h = absurd (false≢true h)
near_counts (Some entry_why.Algorithm) h = refl
near_counts (Some entry_why.DigestType) h = refl
near_counts (Some entry_why.DigestIgnored) h = refl

fitting_some : (r : DnskeyFacts) (chain : Option Mended) (v : VoucherFacts) (k : HeldKey) → There chain → fits v (signing r k) ≡ true
    → is_none (fitting_way chain v (signing r k)) ≡ false
unfolding fitting_way
fitting_some r chain v k c fit = some_if (fits v (signing r k)) (joined chain (voucher_fault v) (signing r k).mend) []
    (λ e. some_joined chain (voucher_fault v) (signing r k).mend c (signing_there r k)) (λ e. absurd (false≢true (sym e ∙ fit)))

-- an anchor or a DS record that isn't passed over
counted_some : (r : DnskeyFacts) (chain : Option Mended) (served : Bool) (v : VoucherFacts) (k : HeldKey) → There chain → (is_missing_by v.why && served) ≡ false
    → IsAmong k r.keys.items → fits v (signing r k) ≡ true → is_none (voucher_ways chain served (signings r) v) ≡ false
unfolding voucher_ways
counted_some r chain served v k c counted among fit =
    some_if (is_missing_by v.why && served) [] (flat_map (fitting_way chain v) (signings r)) (λ e. absurd (false≢true (sym counted ∙ e)))
    (λ e. some_mapped (signing r) (fitting_way chain v) r.keys.items k among (fitting_some r chain v k c fit))

-- of a group one of which fits a key: that, or the other for which it is passed over
counted_case : (r : DnskeyFacts) (chain : Option Mended) (group : List VoucherFacts) (v : VoucherFacts) (k : HeldKey) (t : Bool) → There chain
    → (is_missing_by v.why && is_served group (signings r)) ≡ t → IsAmong v group → IsAmong k r.keys.items → fits v (signing r k) ≡ true
    → is_none (group_ways chain (signings r) group) ≡ false
counted_case r chain group v k false c e among key fit =
    some_flat (voucher_ways chain (is_served group (signings r)) (signings r)) group v among
    (counted_some r chain (is_served group (signings r)) v k c e key fit)
counted_case r chain group v k true c e among key fit =
    let served = (both_true (is_missing_by v.why) (is_served group (signings r)) e).1 in
    let w = passing (λ (each : VoucherFacts). is_near_by each.why && list_any (λ (s : Signing). s.is_named && fits each s) (signings r)) group served in
    let near = both_true (is_near_by w.x.why) (list_any (λ (s : Signing). s.is_named && fits w.x s) (signings r)) w.passes in
    let s = passing (λ (each : Signing). each.is_named && fits w.x each) (signings r) near.1 in
    let h = mapped_among (signing r) r.keys.items s.x s.among in
    let fit = subst (λ (each : Signing). fits w.x each ≡ true) h.is ((both_true s.x.is_named (fits w.x s.x) s.passes).1) in
    some_flat (voucher_ways chain (is_served group (signings r)) (signings r)) group w.x w.among
    (counted_some r chain (is_served group (signings r)) w.x h.x c (ap (λ b. b && is_served group (signings r)) (near_counts w.x.why near.0)) h.among fit)

group_some : (r : DnskeyFacts) (chain : Option Mended) (group : List VoucherFacts) → There chain → is_fitted group (signings r) ≡ true
    → is_none (group_ways chain (signings r) group) ≡ false
group_some r chain group c fitted =
    let v = passing (λ (each : VoucherFacts). list_any (fits each) (signings r)) group fitted in
    let s = passing (fits v.x) (signings r) v.passes in
    let h = mapped_among (signing r) r.keys.items s.x s.among in
    counted_case r chain group v.x h.x (is_missing_by v.x.why && is_served group (signings r)) c refl v.among h.among
    (subst (λ (each : Signing). fits v.x each ≡ true) h.is s.passes)

-- each DS RRset from the place on has its chain there
abbrev AreThere : List (Option Mended) → ℕ → List DsFacts → Type 0
AreThere chains place [] = Unit {0}
AreThere chains place (ds ∷ dss) = There (mend_at chains place) × AreThere chains (place + 1) dss

ds_some : (r : DnskeyFacts) (chains : List (Option Mended)) (place : ℕ) (dss : List DsFacts) → AreThere chains place dss
    → list_any (λ (ds : DsFacts). is_fitted ds.records.items (signings r)) dss ≡ true → is_none (ds_ways (signings r) chains place dss) ≡ false
ds_some r chains place [] are fitted = absurd (false≢true fitted)
ds_some r chains place (ds ∷ dss) are fitted =
    let W = group_ways (mend_at chains place) (signings r) ds.records.items in
    let rest = ds_ways (signings r) chains (place + 1) dss in
    ⊎_elim
    (λ (h : is_fitted ds.records.items (signings r) ≡ true). some_left W rest (group_some r (mend_at chains place) ds.records.items are.0 h))
    (λ (h : list_any (λ (each : DsFacts). is_fitted each.records.items (signings r)) dss ≡ true). some_right W rest (ds_some r chains (place + 1) dss are.1 h))
    (either_true (is_fitted ds.records.items (signings r)) (list_any (λ (each : DsFacts). is_fitted each.records.items (signings r)) dss) fitted)

record Stood (z : ZoneFacts) (s : Standing) : Type 0 where
  lead : There s.lead
  chains : AreThere s.chains 0 z.ds.items

unvouched_some : (z : ZoneFacts) (s : Standing) (r : DnskeyFacts) (st : Stood z s) (k : HeldKey) → is_none (unvouched_ways s.lead (not_vouched z r) (signing r k)) ≡ false
unfolding unvouched_ways
unvouched_some z s r st k = some_joined s.lead (not_vouched z r) (signing r k).mend st.lead (signing_there r k)

dnskey_some : (z : ZoneFacts) (s : Standing) (r : DnskeyFacts) → Stood z s → is_none r.keys.items ≡ false → is_none (dnskey_ways s z r) ≡ false
dnskey_some z s r st keyed =
    let anchors = group_ways (Some nothing) (signings r) z.anchors.items in
    let dss = ds_ways (signings r) s.chains 0 z.ds.items in
    let k = first_of r.keys.items keyed in
    some_if r.is_trusted (nothing ∷ []) (if z.is_anchored then anchored_ways s z r (signings r) else unanchored s ∷ []) (λ e. refl)
    (λ e. some_if z.is_anchored (anchored_ways s z r (signings r)) (unanchored s ∷ [])
    (λ a. some_if (is_vouched z (signings r)) (anchors ++ dss) (flat_map (unvouched_ways s.lead (not_vouched z r)) (signings r))
    (λ vouched. ⊎_elim
    (λ (h : is_fitted z.anchors.items (signings r) ≡ true). some_left anchors dss (group_some r (Some nothing) z.anchors.items (record { m = nothing; is = refl }) h))
    (λ (h : list_any (λ (ds : DsFacts). is_fitted ds.records.items (signings r)) z.ds.items ≡ true). some_right anchors dss (ds_some r s.chains 0 z.ds.items st.chains h))
    (either_true (is_fitted z.anchors.items (signings r)) (list_any (λ (ds : DsFacts). is_fitted ds.records.items (signings r)) z.ds.items) vouched))
    (λ other. some_mapped (signing r) (unvouched_ways s.lead (not_vouched z r)) r.keys.items k.x k.among (unvouched_some z s r st k.x)))
    (λ a. refl))

dnskey_there : (z : ZoneFacts) (s : Standing) (r : DnskeyFacts) → Stood z s → is_none r.keys.items ≡ false → There (dnskey_mend s z r)
unfolding dnskey_mend
dnskey_there z s r st keyed = there (dnskey_ways s z r) (dnskey_some z s r st keyed)

-- ---- what is kept of zones

record ThereKey (level : Leveled) (i : ℕ) : Type 0 where
  k : Held
  is : slice_get level.keys i ≡ Some k
  mend : There k.mend

record Full (zones : List ZoneFacts) (n : ℕ) (level : Leveled) : Type 0 where
  z : ZoneFacts
  is : slice_get zones n ≡ Some z
  zone : There level.zone
  keys : (i : ℕ) (key : ZoneKey) → slice_get z.keys.items i ≡ Some key → ThereKey level i

abbrev AreFull : List ZoneFacts → List Leveled → Type 0
AreFull zones levels = (n : ℕ) (level : Leveled) → slice_get levels n ≡ Some level → Full zones n level

above_case : (t : Bool) (level : Leveled) (o : Option Mended) → There level.zone → There o → There (if t then level.zone else o)
above_case true level o a b = a
above_case false level o a b = b

above_there : (levels : List Leveled) (o : Option Mended) → There o → ((level : Leveled) → IsAmong level levels → There level.zone) → There (above_from o levels)
above_there [] o t each = t
above_there (level ∷ levels) o t each =
    above_there levels (if level.leads then level.zone else o) (above_case level.leads level o (each level (inl refl)) t) (λ other among. each other (inr among))

module _ (zones : List ZoneFacts) (levels : List Leveled) (full : AreFull zones levels) where
  zone_above_there : There (zone_above levels)
  zone_above_there = above_there levels (Some nothing) (record { m = nothing; is = refl })
      (λ level among. let p = place_of levels level among in (full p.i level p.is).zone)

  held_some : (s : SignatureFacts) (k : NamedKey) (level : Leveled) (t : ThereKey level k.key) → is_none (held_ways level s k) ≡ false
  unfolding held_ways
  held_some s k level t = subst (λ (o : Option Held). is_none (held_way level.is_trusted s k o) ≡ false) (sym t.is)
      (some_after t.k.mend (telling (lines_under level.is_trusted s k)) t.mend)

  named_some : (s : SignatureFacts) (level : Leveled) (place : IsSignerInPlace zones (length levels) s) (f : Full zones s.signer level)
      → is_none (named_ways level s s.keys.items) ≡ false
  named_some s level place f =
      let held_part = flat_map (held_ways level s) s.keys.items in
      let other_part = flat_map (unheld_ways level s) s.keys.items in
      some_if (is_none s.keys.items) (after level.zone (telling (unnamed_lines s))) (held_part ++ other_part)
      (λ none. some_after level.zone (telling (unnamed_lines s)) f.zone)
      (λ some. let k = first_of s.keys.items some in
      let key = place.keys k.x k.among in
      let same = same_zone zones s.signer place.z f.z place.is f.is in
      let own = f.keys k.x.key key.0 (subst (λ (each : ZoneFacts). slice_get each.keys.items k.x.key ≡ Some key.0) same key.1) in
      some_left held_part other_part (some_flat (held_ways level s) s.keys.items k.x k.among (held_some s k.x level own)))

  signature_some : (above : Option Mended) → There above → (s : SignatureFacts) → (s.faults.signer ≡ false → IsSignerInPlace zones (length levels) s)
      → is_none (signature_ways levels above s) ≡ false
  unfolding signature_ways
  signature_some above a s place =
      some_if s.is_signed (nothing ∷ []) (if s.faults.signer then after above (telling (signature_lines s)) else signer_ways s (slice_get levels s.signer)) (λ e. refl)
      (λ e. some_if s.faults.signer (after above (telling (signature_lines s))) (signer_ways s (slice_get levels s.signer))
      (λ by. some_after above (telling (signature_lines s)) a)
      (λ by. let p = place by in
      let level = at_within levels s.signer p.above in
      subst (λ (o : Option Leveled). is_none (signer_ways s o) ≡ false) (sym level.is) (named_some s level.x p (full s.signer level.x level.is))))

  rrset_some : (above : Option Mended) → There above → (r : RrsetFacts) → IsRrsetInPlace zones (length levels) r → is_none (rrset_ways levels above r) ≡ false
  rrset_some above a r place =
      some_if (is_none r.signatures.items) (after above (fault (told.Unsigned r.number))) (flat_map (signature_ways levels above) r.signatures.items)
      (λ none. some_after above (fault (told.Unsigned r.number)) a)
      (λ some. let s = first_of r.signatures.items some in
      some_flat (signature_ways levels above) r.signatures.items s.x s.among (signature_some above a s.x (place s.x s.among)))

  chain_there : (ds : DsFacts) → IsRrsetInPlace zones (length levels) ds.rrset → There (chain_of levels ds)
  unfolding chain_of
  chain_there ds place = there (rrset_ways levels (zone_above levels) ds.rrset) (rrset_some (zone_above levels) zone_above_there ds.rrset place)

  module _ (z : ZoneFacts) (at : slice_get zones (length levels) ≡ Some z) (place : IsInPlace zones) where
    next_there : (front : List DsFacts) (ds : DsFacts) (dss : List DsFacts)
        → AreThere (map (chain_of levels) ((front ++ ds ∷ []) ++ dss)) (length (front ++ ds ∷ [])) dss
        → AreThere (map (chain_of levels) (front ++ ds ∷ dss)) (length front + 1) dss
    next_there front ds dss are =
        subst (λ (p : ℕ). AreThere (map (chain_of levels) (front ++ ds ∷ dss)) p dss) (length-append front (ds ∷ []))
        (subst (λ (all : List DsFacts). AreThere (map (chain_of levels) all) (length (front ++ ds ∷ [])) dss) (append_assoc front (ds ∷ []) dss) are)

    chain_at : (front : List DsFacts) (ds : DsFacts) (dss : List DsFacts)
        → mend_at (map (chain_of levels) (front ++ ds ∷ dss)) (length front) ≡ chain_of levels ds
    chain_at front ds dss = ap kept_at (slice_get-map (chain_of levels) (front ++ ds ∷ dss) (length front)
        ∙ ap (option_map (chain_of levels)) (at_seam front ds dss))

    chains_there : (front dss : List DsFacts) → ((ds : DsFacts) → IsAmong ds dss → IsAmong ds z.ds.items)
        → AreThere (map (chain_of levels) (front ++ dss)) (length front) dss
    chains_there front [] those = tt
    chains_there front (ds ∷ dss) those = (
      subst There (sym (chain_at front ds dss)) (chain_there ds (place.signed (length levels) z ds at (those ds (inl refl)))),
      next_there front ds dss (chains_there (front ++ ds ∷ []) dss (λ other among. those other (inr among))),
    )

    lead_some : is_none (lead_ways (length levels) levels z (chains_of levels z)) ≡ false
    unfolding anchor_ways kept_ways
    lead_some =
        let anchors = flat_map anchor_ways z.anchors.items in
        let dss = flat_map kept_ways (chains_of levels z) in
        some_if (has_none z) (after (zone_above levels) (fault (told.Zone why.DsMissing (length levels)))) (anchors ++ dss)
        (λ none. some_after (zone_above levels) (fault (told.Zone why.DsMissing (length levels))) zone_above_there)
        (λ some. ⊎_elim
        (λ (h : is_none z.anchors.items ≡ false). let v = first_of z.anchors.items h in some_left anchors dss (some_flat anchor_ways z.anchors.items v.x v.among refl))
        (λ (h : is_none z.ds.items ≡ false). let ds = first_of z.ds.items h in some_right anchors dss (some_mapped (chain_of levels) kept_ways z.ds.items ds.x ds.among
        (some_kept (chain_of levels ds.x) (chain_there ds.x (place.signed (length levels) z ds.x at ds.among)))))
        (either_false (is_none z.anchors.items) (is_none z.ds.items) some))

    stood : Stood z (standing_of true levels z)
    stood = record {
      lead = there (lead_ways (length levels) levels z (chains_of levels z)) lead_some;
      chains = chains_there [] z.ds.items (λ ds among. among);
    }

full_zone : (zones : List ZoneFacts) (n : ℕ) (z : ZoneFacts) (s : Standing) (at : slice_get zones n ≡ Some z) (place : IsInPlace zones) (st : Stood z s)
    → is_none (zone_ways s z (map (dnskey_mend s z) z.dnskeys.items)) ≡ false
unfolding kept_ways
full_zone zones n z s at place st =
    let sets = map (dnskey_mend s z) z.dnskeys.items in
    some_if (is_zone_trusted z) (nothing ∷ []) (if z.is_anchored then anchored_zone_ways s z sets else unanchored s ∷ []) (λ e. refl)
    (λ e. some_if z.is_anchored (anchored_zone_ways s z sets) (unanchored s ∷ [])
    (λ a. some_if (is_none z.dnskeys.items) (after s.lead (fault (told.Zone why.DnskeyMissing s.labels))) (flat_map kept_ways sets)
    (λ none. some_after s.lead (fault (told.Zone why.DnskeyMissing s.labels)) st.lead)
    (λ some. let r = first_of z.dnskeys.items some in
    some_mapped (dnskey_mend s z) kept_ways z.dnskeys.items r.x r.among
    (some_kept (dnskey_mend s z r.x) (dnskey_there z s r.x st (place.keyed n z r.x at r.among)))))
    (λ a. refl))

holder_some : (zones : List ZoneFacts) (n : ℕ) (z : ZoneFacts) (s : Standing) (at : slice_get zones n ≡ Some z) (place : IsInPlace zones) (st : Stood z s)
    (key : ZoneKey) (h : IsHeld z key) → is_none (holder_ways (map (dnskey_mend s z) z.dnskeys.items) h.h) ≡ false
unfolding holder_ways
holder_some zones n z s at place st key h =
    let t = dnskey_there z s h.r st (place.keyed n z h.r at (among_at z.dnskeys.items h.h h.r h.stands)) in
    some_kept (mend_at (map (dnskey_mend s z) z.dnskeys.items) h.h) (record {
      m = t.m;
      is = ap kept_at (slice_get-map (dnskey_mend s z) z.dnskeys.items h.h ∙ ap (option_map (dnskey_mend s z)) h.stands) ∙ t.is;
    })

full_key : (zones : List ZoneFacts) (n : ℕ) (z : ZoneFacts) (s : Standing) (at : slice_get zones n ≡ Some z) (place : IsInPlace zones) (st : Stood z s)
    (i : ℕ) (key : ZoneKey) → slice_get z.keys.items i ≡ Some key → ThereKey (level_of s z) i
unfolding held
full_key zones n z s at place st i key is =
    let sets = map (dnskey_mend s z) z.dnskeys.items in
    let h = place.held n z key at (among_at z.keys.items i key is) in
    record {
      k = held sets key;
      is = slice_get-map (held sets) z.keys.items i ∙ ap (option_map (held sets)) is;
      mend = there (flat_map (holder_ways sets) key.holders.items)
          (some_flat (holder_ways sets) key.holders.items h.h h.holds (holder_some zones n z s at place st key h));
    }

full_level : (zones : List ZoneFacts) (n : ℕ) (z : ZoneFacts) (s : Standing) (at : slice_get zones n ≡ Some z) (place : IsInPlace zones) (st : Stood z s)
    → Full zones n (level_of s z)
full_level zones n z s at place st = record {
  z = z;
  is = at;
  zone = there (zone_ways s z (map (dnskey_mend s z) z.dnskeys.items)) (full_zone zones n z s at place st);
  keys = full_key zones n z s at place st;
}

next_full : (zones : List ZoneFacts) (levels : List Leveled) (full : AreFull zones levels) (place : IsInPlace zones) (z : ZoneFacts)
    → slice_get zones (length levels) ≡ Some z → AreFull zones (levels ++ level_over true levels z ∷ [])
unfolding level_over
next_full zones levels full place z is n level at = ⊎_elim
    (λ (e : slice_get levels n ≡ Some level). full n level e)
    (λ (e : (n ≡ length levels) × (level ≡ level_over true levels z)).
    subst (λ (l : Leveled). Full zones n l) (sym e.1) (subst (λ (i : ℕ). Full zones i (level_over true levels z)) (sym e.0)
    (full_level zones (length levels) z (standing_of true levels z) is place (stood zones levels full z is place))))
    (at_end levels (level_over true levels z) n level at)

levels_full : (zones front rest : List ZoneFacts) (levels : List Leveled) (place : IsInPlace zones) → zones ≡ front ++ rest → length levels ≡ length front
    → AreFull zones levels → AreFull zones (levels_from true levels rest)
levels_full zones front [] levels place whole size full = full
levels_full zones front (z ∷ rest) levels place whole size full =
    levels_full zones (front ++ z ∷ []) rest (levels ++ level_over true levels z ∷ []) place (whole ∙ sym (append_assoc front (z ∷ []) rest))
    (length-append levels (level_over true levels z ∷ []) ∙ ap (λ n. n + 1) size ∙ sym (length-append front (z ∷ [])))
    (next_full zones levels full place z (ap (slice_get zones) size ∙ ap (λ (each : List ZoneFacts). slice_get each (length front)) whole ∙ at_seam front z rest))

none_some : {A : Type 0} (x : A) → None ≡ Some x → ⊥
none_some x h = cc

pub always : (zones : List ZoneFacts) (n : ℕ) (level : Leveled) → IsInPlace zones → slice_get (levels_of true zones) n ≡ Some level
    → (m : Mended) × (level.zone ≡ Some m)
always zones n level place at =
    let t = (levels_full zones [] zones [] place refl refl (λ i l h. absurd (none_some l h)) n level at).zone in
    (t.m, t.is)

levels_size : (rest : List ZoneFacts) (levels : List Leveled) → length (levels_from true levels rest) ≡ length levels + length rest
levels_size [] levels = omega arith
levels_size (z ∷ rest) levels =
    let next = level_over true levels z in
    levels_size rest (levels ++ next ∷ []) ∙ omega (arith, length-append levels (next ∷ []))

pub always_of_rrset : (zones : List ZoneFacts) (above : Mended) (r : RrsetFacts) → IsInPlace zones → IsRrsetInPlace zones (length zones) r
    → (m : Mended) × (cheapest (rrset_ways (levels_of true zones) (Some above) r) ≡ Some m)
always_of_rrset zones above r place own =
    let levels = levels_of true zones in
    let size : length zones ≡ length levels = sym (levels_size zones [] ∙ omega arith) in
    let t = there (rrset_ways levels (Some above) r) (rrset_some zones levels (levels_full zones [] zones [] place refl refl (λ i l h. absurd (none_some l h)))
    (Some above) (record { m = above; is = refl }) r (subst (λ (n : ℕ). IsRrsetInPlace zones n r) size own)) in
    (t.m, t.is)
