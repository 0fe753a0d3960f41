-- What is told of zones is what the facts of zones have told.
use Rattle.std.proofs.Common.{◌≡◌, inl, inr, ⊎_elim, ℕ, ◌+◌, ◌++◌, Bool, true, false, if◌then◌else◌, List, [], ◌∷◌, Option, Some, None, map, length, flat_map, append_assoc, refl, sym, ap, ◌∙◌, subst, slice_get}
use Rattle.std.proofs.lemmas.List.{length-append}
use Rattle.std.proofs.lemmas.Option.{same_Some}
use Rattle.std.specs.List.{AllByRecursion}
use Rattle.dnsv_lines.specs.declared.line.fault.zone.WhyZone.TheVariants as why
use Rattle.dnsv_mending.specs.Keys.{Signing, group_ways, signings}
use Rattle.dnsv_mending.specs.Level.{Held, Leveled, above_from, zone_above}
use Rattle.dnsv_mending.specs.Mend.{Mended, after, cheapest, fault, is_none, nothing, with_fault}
use Rattle.dnsv_mending.specs.Rrset.{rrset_ways}
use Rattle.dnsv_mending.specs.Ways.{IsAmong}
use Rattle.dnsv_mending.specs.Zone.{Standing, anchor_ways, anchored_ways, anchored_zone_ways, chain_of, chains_of, dnskey_mend, dnskey_ways, ds_ways, has_none, held, holder_ways, is_vouched, is_zone_trusted, kept_ways, lead_ways, level_of, level_over, levels_from, levels_of, mend_at, not_vouched, standing_of, unanchored, unvouched_ways, zone_ways}
use Rattle.dnsv_mending.specs.declared.facts.keys.DnskeyFacts.{DnskeyFacts}
use Rattle.dnsv_mending.specs.declared.facts.zone.DsFacts.{DsFacts}
use Rattle.dnsv_mending.specs.declared.facts.zone.ZoneFacts.{ZoneFacts}
use Rattle.dnsv_mending.specs.declared.facts.zone.ZoneKey.{ZoneKey}
use Rattle.dnsv_mending.specs.declared.told.Told.{Told}
use Rattle.dnsv_mending.specs.declared.told.Told.TheVariants as told
use Rattle.dnsv_mending.proofs.AllWays.{all_after, all_append, all_flat, all_if, all_joined, all_mapped, all_ways_of, among_at, at_end, at_seam, kept_some, mapped_at, none_some}
use Rattle.dnsv_mending.proofs.SomeWays.{place_of}
use Rattle.dnsv_true_reasons.proofs.truths.ways.KeyWays.{ds_each, group_each, signings_kept}
use Rattle.dnsv_true_reasons.proofs.truths.ways.MendLines.{Kept, Lines, no_lines, of_fault, of_following, of_least, of_with_fault}
use Rattle.dnsv_true_reasons.proofs.truths.ways.SignatureWays.{LevelOf, LevelsOf, rrset_each}
use Rattle.dnsv_true_reasons.proofs.truths.ways.Told.{IsOfZone, IsOfZones}
use Rattle.dnsv_true_reasons.proofs.truths.ways.Told.IsOfZone.{no_anchor, no_dnskey, no_ds, of_anchor, of_ds, of_key, of_record, without_voucher}

-- ---- one zone

kept_nothing : (P : Told → Type 0) → Kept P (Some nothing)
kept_nothing P m is = subst (Lines P) (same_Some nothing m is) (no_lines P)

-- what a zone stands on
pub record Stands (P : Told → Type 0) (n : ℕ) (s : Standing) : Type 0 where
  pub labels : s.labels ≡ n
  pub lead : Kept P s.lead
  pub chains : (place : ℕ) → Kept P (mend_at s.chains place)

module _ (zones : List ZoneFacts) (n : ℕ) (z : ZoneFacts) (at : slice_get zones n ≡ Some z) where
  it_is : (t : Told) → IsOfZone zones n z t → IsOfZones zones t
  it_is t told = record { n = n; z = z; at = at; of = told }

  module _ (s : Standing) (st : Stands (IsOfZones zones) n s) where
    unanchored_case : (b : Bool) → z.is_anchored ≡ false
        → Lines (IsOfZones zones) (if b then fault (told.Zone why.NoAnchor s.labels) else nothing)
    unanchored_case true none = subst (λ (l : ℕ). Lines (IsOfZones zones) (fault (told.Zone why.NoAnchor l))) (sym st.labels)
        (of_fault (IsOfZones zones) (told.Zone why.NoAnchor n) (it_is _ (no_anchor none)))
    unanchored_case false none = no_lines (IsOfZones zones)

    unvouched_told : (r : DnskeyFacts) (b : Bool) → has_none z ≡ b → is_vouched z (signings r) ≡ false → IsAmong r z.dnskeys.items
        → (t : Told) → (if b then None else Some (told.NotVouched r.number)) ≡ Some t → IsOfZones zones t
    unvouched_told r true e unfit among t is = absurd (none_some t is)
    unvouched_told r false e unfit among t is =
        subst (IsOfZones zones) (same_Some (told.NotVouched r.number) t is) (it_is _ (without_voucher r among e unfit))

    unvouched_each : (r : DnskeyFacts) → is_vouched z (signings r) ≡ false → IsAmong r z.dnskeys.items → (k : Signing)
        → Kept (IsOfZones zones) k.mend → AllByRecursion (Lines (IsOfZones zones)) (unvouched_ways s.lead (not_vouched z r) k)
    unfolding unvouched_ways
    unvouched_each r unfit among k signs =
        all_joined (Lines (IsOfZones zones)) s.lead (not_vouched z r) k.mend (λ c m first second.
        of_following (IsOfZones zones) c (with_fault (not_vouched z r) m) (st.lead c first)
        (of_with_fault (IsOfZones zones) (not_vouched z r) m (unvouched_told r (has_none z) refl unfit among) (signs m second)))

    anchored_each : (r : DnskeyFacts) → IsAmong r z.dnskeys.items
        → AllByRecursion (Lines (IsOfZones zones)) (anchored_ways s z r (signings r))
    anchored_each r among =
        let P = IsOfZones zones in
        let keys = signings r in
        let signs = signings_kept P r (λ k t key told. it_is t (of_key r k t among key told)) in
        let anchors = group_ways (Some nothing) keys z.anchors.items in
        let records = ds_ways keys s.chains 0 z.ds.items in
        all_if (Lines P) (is_vouched z keys) (anchors ++ records) (flat_map (unvouched_ways s.lead (not_vouched z r)) keys)
        (λ e. all_append (Lines P) anchors records
        (group_each P keys signs (Some nothing) (kept_nothing P) z.anchors.items (λ v w vouches is. it_is _ (of_anchor v w vouches is)))
        (ds_each P keys signs s.chains 0 z.ds.items st.chains (λ ds v w dsin vouches is. it_is _ (of_record ds v w dsin vouches is))))
        (λ unfit. all_flat (Lines P) (unvouched_ways s.lead (not_vouched z r)) keys (λ k key. unvouched_each r unfit among k (signs k key)))

    dnskey_kept : (r : DnskeyFacts) → IsAmong r z.dnskeys.items → Kept (IsOfZones zones) (dnskey_mend s z r)
    unfolding dnskey_mend
    dnskey_kept r among =
        of_least (IsOfZones zones) (dnskey_ways s z r)
        (all_if (Lines (IsOfZones zones)) r.is_trusted (nothing ∷ [])
        (if z.is_anchored then anchored_ways s z r (signings r) else unanchored s ∷ [])
        (λ e. (no_lines (IsOfZones zones), tt))
        (λ other. all_if (Lines (IsOfZones zones)) z.is_anchored (anchored_ways s z r (signings r)) (unanchored s ∷ [])
        (λ e. anchored_each r among) (λ e. (unanchored_case s.is_anchored e, tt))))

    abbrev sets : List (Option Mended)
    sets = map (dnskey_mend s z) z.dnskeys.items

    set_kept : (h : ℕ) → Kept (IsOfZones zones) (mend_at sets h)
    set_kept h m is =
        let place = mapped_at (dnskey_mend s z) z.dnskeys.items h (Some m) (kept_some (slice_get sets h) m is) in
        dnskey_kept place.from (among_at z.dnskeys.items h place.from place.is) m place.same

    zone_each : AllByRecursion (Lines (IsOfZones zones)) (zone_ways s z sets)
    unfolding kept_ways
    zone_each =
        let P = IsOfZones zones in
        all_if (Lines P) (is_zone_trusted z) (nothing ∷ []) (if z.is_anchored then anchored_zone_ways s z sets else unanchored s ∷ [])
        (λ e. (no_lines P, tt))
        (λ other. all_if (Lines P) z.is_anchored (anchored_zone_ways s z sets) (unanchored s ∷ [])
        (λ e. all_if (Lines P) (is_none z.dnskeys.items) (after s.lead (fault (told.Zone why.DnskeyMissing s.labels)))
        (flat_map kept_ways sets)
        (λ none. all_after (Lines P) s.lead (fault (told.Zone why.DnskeyMissing s.labels)) (λ m is.
        of_following P m (fault (told.Zone why.DnskeyMissing s.labels)) (st.lead m is)
        (subst (λ (l : ℕ). Lines P (fault (told.Zone why.DnskeyMissing l))) (sym st.labels)
        (of_fault P (told.Zone why.DnskeyMissing n) (it_is _ (no_dnskey none))))))
        (λ some. all_mapped (Lines P) (dnskey_mend s z) kept_ways z.dnskeys.items
        (λ r among. all_ways_of (Lines P) (dnskey_mend s z r) (dnskey_kept r among))))
        (λ e. (unanchored_case s.is_anchored e, tt)))

    key_kept : (key : ZoneKey) → Kept (IsOfZones zones) (held sets key).mend
    unfolding held holder_ways
    key_kept key =
        of_least (IsOfZones zones) (flat_map (holder_ways sets) key.holders.items)
        (all_flat (Lines (IsOfZones zones)) (holder_ways sets) key.holders.items
        (λ h among. all_ways_of (Lines (IsOfZones zones)) (mend_at sets h) (set_kept h)))

    pub level_good : LevelOf (IsOfZones zones) zones n (level_of s z)
    level_good = record {
      z = z;
      is = at;
      trusted = refl;
      zone = of_least (IsOfZones zones) (zone_ways s z sets) zone_each;
      keys = λ i k is m kept.
          let place = mapped_at (held sets) z.keys.items i k is in
          key_kept place.from m (ap (λ (each : Held). each.mend) place.same ∙ kept);
    }

-- ---- zones, from the root down

above_kept : (P : Told → Type 0) (above : Option Mended) (levels : List Leveled) → Kept P above
    → ((level : Leveled) → IsAmong level levels → Kept P level.zone) → Kept P (above_from above levels)
above_kept P above [] kept each = kept
above_kept P above (level ∷ levels) kept each =
    above_kept P (if level.leads then level.zone else above) levels (by level.leads) (λ other among. each other (inr among))
  where
    by : (b : Bool) → Kept P (if b then level.zone else above)
    by true = each level (inl refl)
    by false = kept

pub zone_above_kept : (P : Told → Type 0) (zones : List ZoneFacts) (levels : List Leveled) → LevelsOf P zones levels
    → Kept P (zone_above levels)
zone_above_kept P zones levels are =
    above_kept P (Some nothing) levels (kept_nothing P)
    (λ level among. let place = place_of levels level among in (are place.i level place.is).zone)

module _ (zones : List ZoneFacts) (levels : List Leveled) (are : LevelsOf (IsOfZones zones) zones levels) where
  chain_kept : (n : ℕ) (z : ZoneFacts) → slice_get zones n ≡ Some z → (ds : DsFacts) → IsAmong ds z.ds.items
      → Kept (IsOfZones zones) (chain_of levels ds)
  unfolding chain_of
  chain_kept n z at ds among =
      of_least (IsOfZones zones) (rrset_ways levels (zone_above levels) ds.rrset)
      (rrset_each (IsOfZones zones) zones levels are (zone_above levels) (zone_above_kept (IsOfZones zones) zones levels are) ds.rrset
      (λ t told. it_is zones n z at t (of_ds ds t among told)))

  lead_kept : (n : ℕ) (z : ZoneFacts) → slice_get zones n ≡ Some z
      → Kept (IsOfZones zones) (cheapest (lead_ways n levels z (chains_of levels z)))
  unfolding anchor_ways kept_ways
  lead_kept n z at =
      let P = IsOfZones zones in
      of_least P (lead_ways n levels z (chains_of levels z))
      (all_if (Lines P) (has_none z) (after (zone_above levels) (fault (told.Zone why.DsMissing n)))
      (flat_map anchor_ways z.anchors.items ++ flat_map kept_ways (chains_of levels z))
      (λ none. all_after (Lines P) (zone_above levels) (fault (told.Zone why.DsMissing n)) (λ m is.
      of_following P m (fault (told.Zone why.DsMissing n)) (zone_above_kept P zones levels are m is)
      (of_fault P (told.Zone why.DsMissing n) (it_is zones n z at _ (no_ds none)))))
      (λ some. all_append (Lines P) (flat_map anchor_ways z.anchors.items) (flat_map kept_ways (chains_of levels z))
      (all_flat (Lines P) anchor_ways z.anchors.items (λ v among. (no_lines P, tt)))
      (all_mapped (Lines P) (chain_of levels) kept_ways z.ds.items
      (λ ds among. all_ways_of (Lines P) (chain_of levels ds) (chain_kept n z at ds among)))))

  standing_good : (b : Bool) (z : ZoneFacts) → slice_get zones (length levels) ≡ Some z
      → Stands (IsOfZones zones) (length levels) (standing_of b levels z)
  standing_good b z at = record {
    labels = refl;
    lead = lead_kept (length levels) z at;
    chains = λ place m is.
        let there = mapped_at (chain_of levels) z.ds.items place (Some m) (kept_some (slice_get (chains_of levels z) place) m is) in
        chain_kept (length levels) z at there.from (among_at z.ds.items place there.from there.is) m there.same;
  }

  next_good : (b : Bool) (z : ZoneFacts) → slice_get zones (length levels) ≡ Some z
      → LevelsOf (IsOfZones zones) zones (levels ++ level_over b levels z ∷ [])
  unfolding level_over
  next_good b z at n level is = ⊎_elim
      (λ (e : slice_get levels n ≡ Some level). are n level e)
      (λ (e : (n ≡ length levels) × (level ≡ level_over b levels z)).
      subst (λ (l : Leveled). LevelOf (IsOfZones zones) zones n l) (sym e.1)
      (subst (λ (i : ℕ). LevelOf (IsOfZones zones) zones i (level_over b levels z)) (sym e.0)
      (level_good zones (length levels) z at (standing_of b levels z) (standing_good b z at))))
      (at_end levels (level_over b levels z) n level is)

levels_good : (b : Bool) (zones front rest : List ZoneFacts) (levels : List Leveled) → zones ≡ front ++ rest → length levels ≡ length front
    → LevelsOf (IsOfZones zones) zones levels → LevelsOf (IsOfZones zones) zones (levels_from b levels rest)
levels_good b zones front [] levels whole size good = good
levels_good b zones front (z ∷ rest) levels whole size good =
    levels_good b zones (front ++ z ∷ []) rest (levels ++ level_over b levels z ∷ []) (whole ∙ sym (append_assoc front (z ∷ []) rest))
    (length-append levels (level_over b levels z ∷ []) ∙ ap (λ n. n + 1) size ∙ sym (length-append front (z ∷ [])))
    (next_good zones levels good b z (ap (slice_get zones) size ∙ ap (λ (each : List ZoneFacts). slice_get each (length front)) whole
    ∙ at_seam front z rest))

-- all that is kept of zones is such
pub levels_told : (b : Bool) (zones : List ZoneFacts) → LevelsOf (IsOfZones zones) zones (levels_of b zones)
levels_told b zones = levels_good b zones [] zones [] refl refl (λ n level is. absurd (none_some level is))
