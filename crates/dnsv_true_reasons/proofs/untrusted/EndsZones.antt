-- What is kept of zones tells why a signer isn't trusted.
use Rattle.std.proofs.Common.{if◌then◌else◌, ◌≡◌, ◌⊎◌, inl, inr, ⊎_elim, ℕ, ◌+◌, ◌++◌, Bool, true, false, List, [], ◌∷◌, Some, None, map, length, flat_map, append_assoc, refl, sym, ap, ◌∙◌, subst, slice_get, arith}
use Rattle.std.proofs.lemmas.Bool.{false≢true}
use Rattle.std.proofs.lemmas.List.{length-append}
use Rattle.std.proofs.lemmas.Option.{same_Some}
use Rattle.std.specs.List.{AllByRecursion}
use Rattle.dnsv_canonical.specs.declared.number.SignatureNumber.{SignatureNumber}
use Rattle.dnsv_lines.specs.declared.line.fault.zone.WhyZone.TheVariants as why
use Rattle.dnsv_mending.specs.Keys.{group_ways, signing, signings}
use Rattle.dnsv_mending.specs.Level.{Held, Leveled, zone_above}
use Rattle.dnsv_mending.specs.Mend.{Mended, after, fault, following, is_none, nothing, with_fault}
use Rattle.dnsv_mending.specs.Reasons.{IsClosed, is_reason}
use Rattle.dnsv_mending.specs.Rrset.{rrset_ways}
use Rattle.dnsv_mending.specs.Ways.{IsAmong}
use Rattle.dnsv_mending.specs.Zone.{Standing, anchor_ways, anchored_ways, anchored_zone_ways, chain_of, chains_of, dnskey_mend, dnskey_ways, ds_ways, has_none, held, holder_ways, is_vouched, is_zone_trusted, kept_ways, lead_ways, level_of, level_over, levels_from, levels_of, mend_at, not_vouched, standing_of, unanchored, unvouched_ways, zone_ways}
use Rattle.dnsv_mending.specs.declared.facts.keys.DnskeyFacts.{DnskeyFacts}
use Rattle.dnsv_mending.specs.declared.facts.keys.HeldKey.{HeldKey}
use Rattle.dnsv_mending.specs.declared.facts.zone.DsFacts.{DsFacts}
use Rattle.dnsv_mending.specs.declared.facts.zone.ZoneFacts.{ZoneFacts}
use Rattle.dnsv_mending.specs.declared.facts.zone.ZoneKey.{ZoneKey}
use Rattle.dnsv_mending.specs.declared.told.Told.{Told}
use Rattle.dnsv_mending.specs.declared.told.Told.TheVariants as told
use Rattle.dnsv_mending.proofs.AllWays.{all_after, all_append, all_flat, all_if, all_joined, all_mapped, all_ways_of, among_at, at_end, at_seam, kept_some, mapped_at, of_cheapest}
use Rattle.dnsv_mending.proofs.Reasons.{trusted_by}
use Rattle.dnsv_true_reasons.proofs.untrusted.Ending.{Ends, IsUntrusted, Reasoned, SaidIf, ZoneEnds, ends_following, ends_fault, ends_nothing, ends_with, in_first, in_left, in_second, reasoned_in}
use Rattle.dnsv_true_reasons.proofs.untrusted.EndsRrsets.{AreDsBySigner, AreEnding, LevelEnds, RrsetEnds, rrset_ends, zone_above_ends}
use Rattle.dnsv_true_reasons.proofs.telling.SaysZones.{SaysZone}
use Rattle.dnsv_true_reasons.proofs.untrusted.EndsSets.{AreChains, SetEnds, anchor_case, ds_ends, group_ends, one_reason, signing_ends}

module _ (zones : List ZoneFacts) (closed : IsClosed zones) (Said : ℕ → Told → Type 0) (By : SignatureNumber → ℕ → Type 0) where
  -- ---- a zone with n labels, whose lines are said of it

  module _ (n : ℕ) (z : ZoneFacts) (at : slice_get zones n ≡ Some z) (says : SaysZone (SaidIf Said n) n z) where
    -- ---- the zone

    -- what leads into it: where it has neither an anchor nor a DS RRset, that is told
    record LeadEnds (m : Mended) : Type 0 where
      ends : Ends zones Said By m
      told : has_none z ≡ true → Reasoned Said n m

    -- what it stands on
    record StandsEnding (s : Standing) : Type 0 where
      labels : s.labels ≡ n
      anchored : s.is_anchored ≡ true
      lead : (m : Mended) → s.lead ≡ Some m → LeadEnds m
      chains : AreChains (λ ds c. RrsetEnds zones Said By n ds.rrset c) s.chains 0 z.ds.items

    module _ (s : Standing) (st : StandsEnding s) where
      unanchored_is : unanchored s ≡ fault (told.Zone why.NoAnchor n)
      unanchored_is = ap (λ (t : Bool). if t then fault (told.Zone why.NoAnchor s.labels) else nothing) st.anchored
          ∙ ap (λ (l : ℕ). fault (told.Zone why.NoAnchor l)) st.labels

      unanchored_reason : Reasoned Said n (unanchored s)
      unanchored_reason = subst (Reasoned Said n) (sym unanchored_is)
          (one_reason zones closed Said By n z at says (told.Zone why.NoAnchor n) refl (says.itself why.NoAnchor) (fault (told.Zone why.NoAnchor n)) (inr (inl refl)))

      unanchored_ends : Ends zones Said By (unanchored s)
      unanchored_ends = subst (Ends zones Said By) (sym unanchored_is) (ends_fault zones Said By (told.Zone why.NoAnchor n) refl)

      -- where nothing fits a key
      why_case : (r : DnskeyFacts) → IsAmong r z.dnskeys.items → (t : Bool) → has_none z ≡ t → (c m : Mended) → LeadEnds c
          → Reasoned Said n (following c (with_fault (if t then None else Some (told.NotVouched r.number)) m))
      why_case r in_zone true e c m lead = reasoned_in zones Said By n c (following c m) (λ t there. in_first t c m there) (lead.told e)
      why_case r in_zone false e c m lead =
          let line = told.NotVouched r.number in
          let own = with_fault (Some line) m in
          one_reason zones closed Said By n z at says line refl (says.dnskeys r in_zone).not_vouched (following c own) (in_second line c own (in_left line (fault line) m (inr (inl refl))))

      why_reason : (r : DnskeyFacts) (t : Bool) (line : Told) → (if t then None else Some (told.NotVouched r.number)) ≡ Some line → is_reason line ≡ true
      why_reason r true line is = absurd (cc is)
      why_reason r false line is = subst (λ (x : Told). is_reason x ≡ true) (same_Some (told.NotVouched r.number) line is) refl

      unvouched_each : (r : DnskeyFacts) → IsAmong r z.dnskeys.items → (k : HeldKey) → IsAmong k r.keys.items
          → AllByRecursion (SetEnds zones closed Said By n z at says r) (unvouched_ways s.lead (not_vouched z r) (signing r k))
      unfolding unvouched_ways
      unvouched_each r in_zone k among = all_joined (SetEnds zones closed Said By n z at says r) s.lead (not_vouched z r) (signing r k).mend (λ c m first second. record {
        ends = ends_following zones Said By c (with_fault (not_vouched z r) m) (st.lead c first).ends
            (ends_with zones Said By (not_vouched z r) m (why_reason r (has_none z)) (signing_ends zones closed Said By n z at says r k m (says.dnskeys r in_zone) among second).ends);
        told = inr (why_case r in_zone (has_none z) refl c m (st.lead c first));
      })

      anchored_ends : (r : DnskeyFacts) → IsAmong r z.dnskeys.items → AllByRecursion (SetEnds zones closed Said By n z at says r) (anchored_ways s z r (signings r))
      anchored_ends r in_zone =
          all_if (SetEnds zones closed Said By n z at says r) (is_vouched z (signings r)) (group_ways (Some nothing) (signings r) z.anchors.items ++ ds_ways (signings r) s.chains 0 z.ds.items)
          (flat_map (unvouched_ways s.lead (not_vouched z r)) (signings r))
          (λ e. all_append (SetEnds zones closed Said By n z at says r) (group_ways (Some nothing) (signings r) z.anchors.items) (ds_ways (signings r) s.chains 0 z.ds.items)
          (group_ends zones closed Said By n z at says r in_zone (Some nothing) z.anchors.items (λ v k c m among by first fit self. anchor_case zones closed Said By n z at says r in_zone v k c m among by first fit self))
          (ds_ends zones closed Said By n z at says r in_zone s.chains 0 z.ds.items (λ ds among. among) st.chains))
          (λ e. all_mapped (SetEnds zones closed Said By n z at says r) (signing r) (unvouched_ways s.lead (not_vouched z r)) r.keys.items (λ k among. unvouched_each r in_zone k among))

      set_ends : (r : DnskeyFacts) → IsAmong r z.dnskeys.items → AllByRecursion (SetEnds zones closed Said By n z at says r) (dnskey_ways s z r)
      set_ends r in_zone =
          all_if (SetEnds zones closed Said By n z at says r) r.is_trusted (nothing ∷ []) (if z.is_anchored then anchored_ways s z r (signings r) else unanchored s ∷ [])
          (λ e. (record { ends = ends_nothing zones Said By; told = inl e }, tt))
          (λ e. all_if (SetEnds zones closed Said By n z at says r) z.is_anchored (anchored_ways s z r (signings r)) (unanchored s ∷ [])
          (λ f. anchored_ends r in_zone) (λ f. (record { ends = unanchored_ends; told = inr unanchored_reason }, tt)))

      set_kept : (r : DnskeyFacts) → IsAmong r z.dnskeys.items → (m : Mended) → dnskey_mend s z r ≡ Some m → SetEnds zones closed Said By n z at says r m
      unfolding dnskey_mend
      set_kept r in_zone m is = of_cheapest (SetEnds zones closed Said By n z at says r) (dnskey_ways s z r) m (set_ends r in_zone) is

      -- where the zone isn't trusted, none of its RRsets is
      untrusted_reason : (r : DnskeyFacts) → IsAmong r z.dnskeys.items → (m : Mended) → SetEnds zones closed Said By n z at says r m → IsUntrusted zones n → Reasoned Said n m
      untrusted_reason r in_zone m e u = ⊎_elim
          (λ (trusted : r.is_trusted ≡ true).
          let same : u.0 ≡ z = same_Some u.0 z (sym u.1 ∙ at) in
          let off : is_zone_trusted z ≡ false = subst (λ (each : ZoneFacts). is_zone_trusted each ≡ false) same u.2 in
          absurd (false≢true (sym off ∙ trusted_by z.dnskeys.items r in_zone trusted)))
          (λ (h : Reasoned Said n m). h) e.told

      set_leads : (r : DnskeyFacts) → IsAmong r z.dnskeys.items → (m : Mended) → dnskey_mend s z r ≡ Some m → ZoneEnds zones Said By n m
      set_leads r in_zone m is = let e = set_kept r in_zone m is in record { ends = e.ends; reason = untrusted_reason r in_zone m e }

      each_set : (r : DnskeyFacts) → IsAmong r z.dnskeys.items → AllByRecursion (ZoneEnds zones Said By n) (kept_ways (dnskey_mend s z r))
      unfolding kept_ways
      each_set r in_zone = all_ways_of (ZoneEnds zones Said By n) (dnskey_mend s z r) (set_leads r in_zone)

      zone_ends : AllByRecursion (ZoneEnds zones Said By n) (zone_ways s z (map (dnskey_mend s z) z.dnskeys.items))
      zone_ends =
          let sets = map (dnskey_mend s z) z.dnskeys.items in
          let E = ZoneEnds zones Said By n in
          let missing = fault (told.Zone why.DnskeyMissing s.labels) in
          all_if E (is_zone_trusted z) (nothing ∷ []) (if z.is_anchored then anchored_zone_ways s z sets else unanchored s ∷ [])
          (λ e. (
            record {
              ends = ends_nothing zones Said By;
              reason = λ u.
                  let same : u.0 ≡ z = same_Some u.0 z (sym u.1 ∙ at) in
                  absurd (false≢true (sym (subst (λ (each : ZoneFacts). is_zone_trusted each ≡ false) same u.2) ∙ e));
            },
            tt,
          ))
          (λ e. all_if E z.is_anchored (anchored_zone_ways s z sets) (unanchored s ∷ [])
          (λ f. all_if E (is_none z.dnskeys.items) (after s.lead missing) (flat_map kept_ways sets)
          (λ none. all_after E s.lead missing (λ m is. record {
            ends = ends_following zones Said By m missing (st.lead m is).ends (ends_fault zones Said By (told.Zone why.DnskeyMissing s.labels) refl);
            reason = λ u. one_reason zones closed Said By n z at says (told.Zone why.DnskeyMissing s.labels) refl
                (subst (λ (l : ℕ). SaidIf Said n (told.Zone why.DnskeyMissing l)) (sym st.labels) (says.itself why.DnskeyMissing)) (following m missing)
                (in_second (told.Zone why.DnskeyMissing s.labels) m missing (inr (inl refl)));
          }))
          (λ some. all_mapped E (dnskey_mend s z) kept_ways z.dnskeys.items (λ r among. each_set r among)))
          (λ f. (record { ends = unanchored_ends; reason = λ u. unanchored_reason }, tt)))

      holder_each : (place : ℕ) → AllByRecursion (ZoneEnds zones Said By n) (holder_ways (map (dnskey_mend s z) z.dnskeys.items) place)
      unfolding holder_ways
      holder_each place =
          let sets = map (dnskey_mend s z) z.dnskeys.items in
          all_ways_of (ZoneEnds zones Said By n) (mend_at sets place) (λ m is.
          let found = mapped_at (dnskey_mend s z) z.dnskeys.items place (Some m) (kept_some (slice_get sets place) m is) in
          set_leads found.from (among_at z.dnskeys.items place found.from found.is) m found.same)

      key_ends : (key : ZoneKey) (m : Mended) → (held (map (dnskey_mend s z) z.dnskeys.items) key).mend ≡ Some m → ZoneEnds zones Said By n m
      unfolding held
      key_ends key m is =
          let sets = map (dnskey_mend s z) z.dnskeys.items in
          of_cheapest (ZoneEnds zones Said By n) (flat_map (holder_ways sets) key.holders.items) m
          (all_flat (ZoneEnds zones Said By n) (holder_ways sets) key.holders.items (λ h among. holder_each h)) is

      level_ends : LevelEnds zones Said By n (level_of s z)
      level_ends = record {
        z = z;
        at = at;
        trusted = refl;
        zone = λ m is. of_cheapest (ZoneEnds zones Said By n) (zone_ways s z (map (dnskey_mend s z) z.dnskeys.items)) m zone_ends is;
        keys = λ i k there m is.
            let sets = map (dnskey_mend s z) z.dnskeys.items in
            let found = mapped_at (held sets) z.keys.items i k there in
            key_ends found.from m (ap (λ (each : Held). each.mend) found.same ∙ is);
      }

  -- ---- what a zone stands on

  module _ (levels : List Leveled) (good : AreEnding zones Said By levels) (z : ZoneFacts) (at : slice_get zones (length levels) ≡ Some z)
      (says : SaysZone (SaidIf Said (length levels)) (length levels) z) (by : AreDsBySigner zones Said By (length levels) z) where
    chain_kept : (ds : DsFacts) → IsAmong ds z.ds.items → (c : Mended) → chain_of levels ds ≡ Some c → RrsetEnds zones Said By (length levels) ds.rrset c
    unfolding chain_of
    chain_kept ds among c is =
        of_cheapest (RrsetEnds zones Said By (length levels) ds.rrset) (rrset_ways levels (zone_above levels) ds.rrset) c
        (rrset_ends zones Said By levels good ds.rrset (λ s in_rrset. (by ds s among in_rrset).0) (closed.signed (length levels) z ds at among) (zone_above levels) (length levels)
        (omega arith) (zone_above_ends zones Said By levels good) (says.ds ds among) (λ s in_rrset. (by ds s among in_rrset).1)) is

    next_chains : (front : List DsFacts) (ds : DsFacts) (dss : List DsFacts)
        → AreChains (λ d c. RrsetEnds zones Said By (length levels) d.rrset c) (map (chain_of levels) ((front ++ ds ∷ []) ++ dss)) (length (front ++ ds ∷ [])) dss
        → AreChains (λ d c. RrsetEnds zones Said By (length levels) d.rrset c) (map (chain_of levels) (front ++ ds ∷ dss)) (length front + 1) dss
    next_chains front ds dss are =
        let Leads : DsFacts → Mended → Type 0 = λ d c. RrsetEnds zones Said By (length levels) d.rrset c in
        subst (λ (place : ℕ). AreChains Leads (map (chain_of levels) (front ++ ds ∷ dss)) place dss) (length-append front (ds ∷ []))
        (subst (λ (all : List DsFacts). AreChains Leads (map (chain_of levels) all) (length (front ++ ds ∷ [])) dss) (append_assoc front (ds ∷ []) dss) are)

    chains_good : (front dss : List DsFacts) → ((ds : DsFacts) → IsAmong ds dss → IsAmong ds z.ds.items)
        → AreChains (λ d c. RrsetEnds zones Said By (length levels) d.rrset c) (map (chain_of levels) (front ++ dss)) (length front) dss
    chains_good front [] those = tt
    chains_good front (ds ∷ dss) those = (
      λ c is. chain_kept ds (those ds (inl refl)) c (let found = mapped_at (chain_of levels) (front ++ ds ∷ dss) (length front) (Some c)
          (kept_some (slice_get (map (chain_of levels) (front ++ ds ∷ dss)) (length front)) c is) in
          ap (chain_of levels) (same_Some ds found.from (sym (at_seam front ds dss) ∙ found.is)) ∙ found.same),
      next_chains front ds dss (chains_good (front ++ ds ∷ []) dss (λ other among. those other (inr among))),
    )

    lead_ends : AllByRecursion (LeadEnds (length levels) z at says) (lead_ways (length levels) levels z (chains_of levels z))
    unfolding anchor_ways kept_ways
    lead_ends =
        let E = LeadEnds (length levels) z at says in
        let missing = fault (told.Zone why.DsMissing (length levels)) in
        all_if E (has_none z) (after (zone_above levels) missing) (flat_map anchor_ways z.anchors.items ++ flat_map kept_ways (chains_of levels z))
        (λ none. all_after E (zone_above levels) missing (λ m is. record {
          ends = ends_following zones Said By m missing (zone_above_ends zones Said By levels good m is) (ends_fault zones Said By (told.Zone why.DsMissing (length levels)) refl);
          told = λ e. one_reason zones closed Said By (length levels) z at says (told.Zone why.DsMissing (length levels)) refl (says.itself why.DsMissing) (following m missing)
              (in_second (told.Zone why.DsMissing (length levels)) m missing (inr (inl refl)));
        }))
        (λ some. all_append E (flat_map anchor_ways z.anchors.items) (flat_map kept_ways (chains_of levels z))
        (all_flat E anchor_ways z.anchors.items (λ v among. (record { ends = ends_nothing zones Said By; told = λ e. absurd (false≢true (sym some ∙ e)) }, tt)))
        (all_mapped E (chain_of levels) kept_ways z.ds.items (λ ds among. all_ways_of E (chain_of levels ds)
        (λ m is. record { ends = (chain_kept ds among m is).ends; told = λ e. absurd (false≢true (sym some ∙ e)) }))))

    next_ends : AreEnding zones Said By (levels ++ level_over true levels z ∷ [])
    unfolding level_over
    next_ends n level there = ⊎_elim
        (λ (e : slice_get levels n ≡ Some level). good n level e)
        (λ (e : (n ≡ length levels) × (level ≡ level_over true levels z)).
        subst (λ (l : Leveled). LevelEnds zones Said By n l) (sym e.1) (subst (λ (i : ℕ). LevelEnds zones Said By i (level_over true levels z)) (sym e.0)
        (level_ends (length levels) z at says (standing_of true levels z) (record {
          labels = refl;
          anchored = refl;
          lead = λ m is. of_cheapest (LeadEnds (length levels) z at says) (lead_ways (length levels) levels z (chains_of levels z)) m lead_ends is;
          chains = chains_good [] z.ds.items (λ ds among. among);
        }))))
        (at_end levels (level_over true levels z) n level there)

  levels_end_from : (front rest : List ZoneFacts) (levels : List Leveled) → ((n : ℕ) (z : ZoneFacts) → slice_get zones n ≡ Some z → SaysZone (SaidIf Said n) n z)
      → ((n : ℕ) (z : ZoneFacts) → slice_get zones n ≡ Some z → AreDsBySigner zones Said By n z) → zones ≡ front ++ rest → length levels ≡ length front
      → AreEnding zones Said By levels → AreEnding zones Said By (levels_from true levels rest)
  levels_end_from front [] levels says by is size good = good
  levels_end_from front (z ∷ rest) levels says by is size good =
      let at : slice_get zones (length levels) ≡ Some z =
      ap (slice_get zones) size ∙ ap (λ (these : List ZoneFacts). slice_get these (length front)) is ∙ at_seam front z rest in
      let next = level_over true levels z in
      levels_end_from (front ++ z ∷ []) rest (levels ++ next ∷ []) says by (is ∙ sym (append_assoc front (z ∷ []) rest))
      (length-append levels (next ∷ []) ∙ ap (λ n. n + 1) size ∙ sym (length-append front (z ∷ [])))
      (next_ends levels good z at (says (length levels) z at) (by (length levels) z at))

  no_levels : AreEnding zones Said By []
  no_levels n level there = absurd (let none : None ≡ Some level = there in cc none)

  -- so it is of all that is kept of zones
  pub levels_end : ((n : ℕ) (z : ZoneFacts) → slice_get zones n ≡ Some z → SaysZone (SaidIf Said n) n z)
      → ((n : ℕ) (z : ZoneFacts) → slice_get zones n ≡ Some z → AreDsBySigner zones Said By n z) → AreEnding zones Said By (levels_of true zones)
  levels_end says by = levels_end_from [] zones [] says by refl refl no_levels
