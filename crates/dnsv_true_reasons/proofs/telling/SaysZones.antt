-- What holds of each line that may be told of zones holds of what is kept of them.
use Rattle.std.proofs.Common.{if◌then◌else◌, ◌≡◌, inl, inr, ℕ, ◌+◌, ◌++◌, ◌&&◌, Bool, true, false, List, [], ◌∷◌, Option, Some, None, map, length, flat_map, append_assoc, refl, sym, ap, ◌∙◌, subst, slice_get}
use Rattle.std.proofs.lemmas.List.{length-append}
use Rattle.std.proofs.lemmas.Option.{same_Some}
use Rattle.std.specs.List.{AllByRecursion}
use Rattle.dnsv_lines.specs.declared.line.fault.zone.WhyEntry.{WhyEntry}
use Rattle.dnsv_lines.specs.declared.line.fault.zone.WhyZone.{WhyZone}
use Rattle.dnsv_lines.specs.declared.line.fault.zone.WhyZone.TheVariants as why
use Rattle.dnsv_mending.specs.Faults.{lines_under, self_lines, signature_lines, unnamed_lines}
use Rattle.dnsv_mending.specs.Keys.{Signing, fits, fitting_way, group_ways, is_missing_by, is_served, self_way, self_ways, signing, signings, unsigned_way, voucher_fault, voucher_ways}
use Rattle.dnsv_mending.specs.Level.{Held, Leveled, above_from, zone_above}
use Rattle.dnsv_mending.specs.Mend.{Mended, after, both, cheapest, fault, is_none, joined, nothing, telling, untold, ways_of}
use Rattle.dnsv_mending.specs.Rrset.{held_way, held_ways, rrset_ways, signature_ways, signer_ways, unheld_way, unheld_ways}
use Rattle.dnsv_mending.specs.Ways.{IsAmong}
use Rattle.dnsv_mending.specs.Zone.{Standing, anchor_ways, anchored_ways, anchored_zone_ways, chain_of, chains_of, dnskey_mend, dnskey_ways, ds_ways, has_none, held, holder_ways, is_vouched, is_zone_trusted, kept_ways, lead_ways, level_of, level_over, levels_from, levels_of, mend_at, not_vouched, standing_of, unanchored, unvouched_ways, zone_ways}
use Rattle.dnsv_mending.specs.declared.facts.keys.DnskeyFacts.{DnskeyFacts}
use Rattle.dnsv_mending.specs.declared.facts.keys.HeldKey.{HeldKey}
use Rattle.dnsv_mending.specs.declared.facts.keys.SelfSignature.{SelfSignature}
use Rattle.dnsv_mending.specs.declared.facts.keys.VoucherFacts.{VoucherFacts}
use Rattle.dnsv_mending.specs.declared.facts.signature.NamedKey.{NamedKey}
use Rattle.dnsv_mending.specs.declared.facts.signature.RrsetFacts.{RrsetFacts}
use Rattle.dnsv_mending.specs.declared.facts.signature.SignatureFacts.{SignatureFacts}
use Rattle.dnsv_mending.specs.declared.facts.zone.DsFacts.{DsFacts}
use Rattle.dnsv_mending.specs.declared.facts.zone.ZoneFacts.{ZoneFacts}
use Rattle.dnsv_mending.specs.declared.facts.zone.ZoneKey.{ZoneKey}
use Rattle.dnsv_mending.specs.declared.price.Class.TheVariants as class
use Rattle.dnsv_mending.specs.declared.told.Told.{Told}
use Rattle.dnsv_mending.specs.declared.told.Told.TheVariants as told
use Rattle.dnsv_mending.proofs.AllWays.{all_append, all_flat, all_if, all_ways_of, at_seam, kept_some, mapped_some, of_cheapest}
use Rattle.dnsv_true_reasons.proofs.telling.Says.{Says, SaysIf, SaysRrset, SaysSignature, all_among, all_at, all_of_map, says_nothing, says_kept, says_untold, says_fault, says_telling, says_both, says_after, says_joined, all_wrong, all_unnamed, all_under, all_self}

-- ---- what may be told

-- of a DNSKEY RRset and the keys in it
pub record SaysKeys (P : Told → Type 0) (r : DnskeyFacts) : Type 0 where
  pub unsigned : P (told.Unsigned r.number)
  pub not_vouched : P (told.NotVouched r.number)
  pub keys : (k : HeldKey) → IsAmong k r.keys.items → P (told.NotSelfSigned k.number)
  pub signatures : (k : HeldKey) (s : SelfSignature) → IsAmong k r.keys.items → IsAmong s k.signatures.items → SaysSignature P s.number

-- of an anchor or a DS record
abbrev pub SaysEntry : (Told → Type 0) → VoucherFacts → Type 0
SaysEntry P v = (w : WhyEntry) → P (told.Entry w v.number)

-- of the zone with so many labels
pub record SaysZone (P : Told → Type 0) (n : ℕ) (z : ZoneFacts) : Type 0 where
  pub itself : (w : WhyZone) → P (told.Zone w n)
  pub anchors : (v : VoucherFacts) → IsAmong v z.anchors.items → SaysEntry P v
  pub ds : (ds : DsFacts) → IsAmong ds z.ds.items → SaysRrset P ds.rrset
  pub records : (ds : DsFacts) (v : VoucherFacts) → IsAmong ds z.ds.items → IsAmong v ds.records.items → SaysEntry P v
  pub dnskeys : (r : DnskeyFacts) → IsAmong r z.dnskeys.items → SaysKeys P r

-- and of what is kept
pub record SaysLevel (P : Told → Type 0) (level : Leveled) : Type 0 where
  pub zone : SaysIf P level.zone
  pub keys : AllByRecursion (λ (k : Held). SaysIf P k.mend) level.keys

abbrev pub SaysSigning : (Told → Type 0) → Signing → Type 0
SaysSigning P k = SaysIf P k.mend

module _ (P : Told → Type 0) where
  of_ways : (ways : List Mended) → AllByRecursion (Says P) ways → SaysIf P (cheapest ways)
  of_ways ways all m is = of_cheapest (Says P) ways m all is

  all_ways : (o : Option Mended) → SaysIf P o → AllByRecursion (Says P) (ways_of o)
  all_ways o h = all_ways_of (Says P) o h

  above_says : (levels : List Leveled) (above : Option Mended) → SaysIf P above → AllByRecursion (SaysLevel P) levels → SaysIf P (above_from above levels)
  above_says [] above h all = h
  above_says (level ∷ levels) above h all = above_says levels (if level.leads then level.zone else above) (next level.leads) all.1
    where
      next : (t : Bool) → SaysIf P (if t then level.zone else above)
      next true = all.0.zone
      next false = h

  pub zone_above_says : (levels : List Leveled) → AllByRecursion (SaysLevel P) levels → SaysIf P (zone_above levels)
  zone_above_says levels all = above_says levels (Some nothing) (says_kept P) all

  -- ---- signatures and RRsets

  held_says : (t : Bool) (s : SignatureFacts) (k : NamedKey) (o : Option Held) → SaysSignature P s.number
      → ((h : Held) → o ≡ Some h → SaysIf P h.mend) → AllByRecursion (Says P) (held_way t s k o)
  held_says t s k None says each = tt
  held_says t s k (Some h) says each = says_after P h.mend (telling (lines_under t s k)) (each h refl) (says_telling P (lines_under t s k) (all_under P t s k says))

  unheld_says : (level : Leveled) (s : SignatureFacts) (k : NamedKey) (o : Option Held) → SaysSignature P s.number → SaysLevel P level
      → AllByRecursion (Says P) (unheld_way level s k o)
  unheld_says level s k None says l = tt
  unheld_says level s k (Some h) says l =
      let own = both (telling (lines_under level.is_trusted s k)) (untold class.NotFitting) in
      all_if (Says P) h.is_trusted [] (after level.zone own) (λ e. tt)
      (λ e. says_after P level.zone own l.zone
      (says_both P (telling (lines_under level.is_trusted s k)) (untold class.NotFitting)
      (says_telling P (lines_under level.is_trusted s k) (all_under P level.is_trusted s k says)) (says_untold P class.NotFitting)))

  held_each : (level : Leveled) (s : SignatureFacts) (k : NamedKey) → SaysSignature P s.number → SaysLevel P level
      → AllByRecursion (Says P) (held_ways level s k)
  unfolding held_ways
  held_each level s k says l =
      held_says level.is_trusted s k (slice_get level.keys k.key) says (λ h is. all_at (λ (each : Held). SaysIf P each.mend) level.keys k.key h l.keys is)

  unheld_each : (level : Leveled) (s : SignatureFacts) (k : NamedKey) → SaysSignature P s.number → SaysLevel P level
      → AllByRecursion (Says P) (unheld_ways level s k)
  unfolding unheld_ways
  unheld_each level s k says l = unheld_says level s k (slice_get level.keys k.key) says l

  signer_says : (s : SignatureFacts) (o : Option Leveled) → SaysSignature P s.number → ((level : Leveled) → o ≡ Some level → SaysLevel P level)
      → AllByRecursion (Says P) (signer_ways s o)
  signer_says s None says each = tt
  signer_says s (Some level) says each =
      let l = each level refl in
      all_if (Says P) (is_none s.keys.items) (after level.zone (telling (unnamed_lines s)))
      (flat_map (held_ways level s) s.keys.items ++ flat_map (unheld_ways level s) s.keys.items)
      (λ none. says_after P level.zone (telling (unnamed_lines s)) l.zone (says_telling P (unnamed_lines s) (all_unnamed P s says)))
      (λ some. all_append (Says P) (flat_map (held_ways level s) s.keys.items) (flat_map (unheld_ways level s) s.keys.items)
      (all_flat (Says P) (held_ways level s) s.keys.items (λ k among. held_each level s k says l))
      (all_flat (Says P) (unheld_ways level s) s.keys.items (λ k among. unheld_each level s k says l)))

  pub signature_says : (levels : List Leveled) (above : Option Mended) (s : SignatureFacts) → AllByRecursion (SaysLevel P) levels → SaysIf P above
      → SaysSignature P s.number → AllByRecursion (Says P) (signature_ways levels above s)
  unfolding signature_ways
  signature_says levels above s all up says =
      all_if (Says P) s.is_signed (nothing ∷ []) (if s.faults.signer then after above (telling (signature_lines s)) else signer_ways s (slice_get levels s.signer))
      (λ e. (says_nothing P, tt))
      (λ e. all_if (Says P) s.faults.signer (after above (telling (signature_lines s))) (signer_ways s (slice_get levels s.signer))
      (λ f. says_after P above (telling (signature_lines s)) up (says_telling P (signature_lines s) (all_wrong P s says)))
      (λ f. signer_says s (slice_get levels s.signer) says (λ level is. all_at (SaysLevel P) levels s.signer level all is)))

  pub rrset_says : (levels : List Leveled) (above : Option Mended) (r : RrsetFacts) → AllByRecursion (SaysLevel P) levels → SaysIf P above
      → SaysRrset P r → AllByRecursion (Says P) (rrset_ways levels above r)
  rrset_says levels above r all up says =
      all_if (Says P) (is_none r.signatures.items) (after above (fault (told.Unsigned r.number))) (flat_map (signature_ways levels above) r.signatures.items)
      (λ none. says_after P above (fault (told.Unsigned r.number)) up (says_fault P (told.Unsigned r.number) says.unsigned))
      (λ some. all_flat (Says P) (signature_ways levels above) r.signatures.items (λ s among. signature_says levels above s all up (says.signatures s among)))

  -- ---- keys

  unsigned_says : (r : DnskeyFacts) (k : HeldKey) (t : Bool) → SaysKeys P r → IsAmong k r.keys.items
      → Says P (if t then fault (told.NotSelfSigned k.number) else fault (told.Unsigned r.number))
  unsigned_says r k true says among = says_fault P (told.NotSelfSigned k.number) (says.keys k among)
  unsigned_says r k false says among = says_fault P (told.Unsigned r.number) says.unsigned

  self_says : (r : DnskeyFacts) (k : HeldKey) → SaysKeys P r → IsAmong k r.keys.items → AllByRecursion (Says P) (self_ways r k)
  unfolding self_way
  self_says r k says among =
      all_if (Says P) (is_none k.signatures.items) (unsigned_way r k ∷ []) (flat_map (self_way k) k.signatures.items)
      (λ none. (unsigned_says r k r.has_signatures says among, tt))
      (λ some. all_flat (Says P) (self_way k) k.signatures.items
      (λ s by. (says_telling P (self_lines k s) (all_self P k s (says.signatures k s among by)), tt)))

  signing_says : (r : DnskeyFacts) (k : HeldKey) → SaysKeys P r → IsAmong k r.keys.items → SaysSigning P (signing r k)
  unfolding signing
  signing_says r k says among = of_ways (self_ways r k) (self_says r k says among)

  signings_say : (r : DnskeyFacts) → SaysKeys P r → AllByRecursion (SaysSigning P) (signings r)
  signings_say r says = all_of_map (SaysSigning P) (signing r) r.keys.items (λ k among. signing_says r k says among)

  voucher_says : (v : VoucherFacts) → SaysEntry P v → (t : Told) → voucher_fault v ≡ Some t → P t
  voucher_says v says t is =
      let found = mapped_some (λ (w : WhyEntry). told.Entry w v.number) v.why t is in
      subst P found.same (says found.from)

  fitting_says : (chain : Option Mended) (v : VoucherFacts) (k : Signing) → SaysIf P chain → SaysEntry P v → SaysSigning P k
      → AllByRecursion (Says P) (fitting_way chain v k)
  unfolding fitting_way
  fitting_says chain v k first entry signs =
      all_if (Says P) (fits v k) (joined chain (voucher_fault v) k.mend) []
      (λ e. says_joined P chain (voucher_fault v) k.mend first (voucher_says v entry) signs) (λ e. tt)

  entry_says : (chain : Option Mended) (served : Bool) (keys : List Signing) (v : VoucherFacts) → SaysIf P chain → SaysEntry P v
      → AllByRecursion (SaysSigning P) keys → AllByRecursion (Says P) (voucher_ways chain served keys v)
  unfolding voucher_ways
  entry_says chain served keys v first entry sign =
      all_if (Says P) (is_missing_by v.why && served) [] (flat_map (fitting_way chain v) keys) (λ e. tt)
      (λ e. all_flat (Says P) (fitting_way chain v) keys (λ k among. fitting_says chain v k first entry (all_among (SaysSigning P) keys k sign among)))

  group_says : (chain : Option Mended) (keys : List Signing) (group : List VoucherFacts) → SaysIf P chain
      → ((v : VoucherFacts) → IsAmong v group → SaysEntry P v) → AllByRecursion (SaysSigning P) keys → AllByRecursion (Says P) (group_ways chain keys group)
  group_says chain keys group first entry sign =
      all_flat (Says P) (voucher_ways chain (is_served group keys) keys) group
      (λ v among. entry_says chain (is_served group keys) keys v first (entry v among) sign)

  mend_says : (chains : List (Option Mended)) (place : ℕ) → AllByRecursion (SaysIf P) chains → SaysIf P (mend_at chains place)
  mend_says chains place all m is =
      all_at (SaysIf P) chains place (Some m) all (kept_some (slice_get chains place) m is) m refl

  ds_say : (keys : List Signing) (chains : List (Option Mended)) (place : ℕ) (dss : List DsFacts) → AllByRecursion (SaysIf P) chains
      → ((ds : DsFacts) (v : VoucherFacts) → IsAmong ds dss → IsAmong v ds.records.items → SaysEntry P v) → AllByRecursion (SaysSigning P) keys
      → AllByRecursion (Says P) (ds_ways keys chains place dss)
  ds_say keys chains place [] all entry sign = tt
  ds_say keys chains place (ds ∷ dss) all entry sign =
      all_append (Says P) (group_ways (mend_at chains place) keys ds.records.items) (ds_ways keys chains (place + 1) dss)
      (group_says (mend_at chains place) keys ds.records.items (mend_says chains place all) (λ v among. entry ds v (inl refl) among) sign)
      (ds_say keys chains (place + 1) dss all (λ other v in_rest among. entry other v (inr in_rest) among) sign)

  -- ---- what a zone stands on

  chain_says : (levels : List Leveled) (ds : DsFacts) → AllByRecursion (SaysLevel P) levels → SaysRrset P ds.rrset → SaysIf P (chain_of levels ds)
  unfolding chain_of
  chain_says levels ds all says =
      of_ways (rrset_ways levels (zone_above levels) ds.rrset) (rrset_says levels (zone_above levels) ds.rrset all (zone_above_says levels all) says)

  module _ (n : ℕ) (z : ZoneFacts) (says : SaysZone P n z) where
    chains_say : (levels : List Leveled) → AllByRecursion (SaysLevel P) levels → AllByRecursion (SaysIf P) (chains_of levels z)
    chains_say levels all = all_of_map (SaysIf P) (chain_of levels) z.ds.items (λ ds among. chain_says levels ds all (says.ds ds among))

    kept_says : (o : Option Mended) → SaysIf P o → AllByRecursion (Says P) (kept_ways o)
    unfolding kept_ways
    kept_says o h = all_ways o h

    lead_says : (levels : List Leveled) (chains : List (Option Mended)) → AllByRecursion (SaysLevel P) levels → AllByRecursion (SaysIf P) chains
        → AllByRecursion (Says P) (lead_ways n levels z chains)
    unfolding anchor_ways
    lead_says levels chains all each =
        all_if (Says P) (has_none z) (after (zone_above levels) (fault (told.Zone why.DsMissing n)))
        (flat_map anchor_ways z.anchors.items ++ flat_map kept_ways chains)
        (λ none. says_after P (zone_above levels) (fault (told.Zone why.DsMissing n)) (zone_above_says levels all)
        (says_fault P (told.Zone why.DsMissing n) (says.itself why.DsMissing)))
        (λ some. all_append (Says P) (flat_map anchor_ways z.anchors.items) (flat_map kept_ways chains)
        (all_flat (Says P) anchor_ways z.anchors.items (λ v among. (says_nothing P, tt)))
        (all_flat (Says P) kept_ways chains (λ o among. kept_says o (all_among (SaysIf P) chains o each among))))

    -- what it stands on says so
    record StandsSaying (s : Standing) : Type 0 where
      labels : s.labels ≡ n
      lead : SaysIf P s.lead
      chains : AllByRecursion (SaysIf P) s.chains

    module _ (s : Standing) (st : StandsSaying s) where
      unanchored_case : (t : Bool) → Says P (if t then fault (told.Zone why.NoAnchor s.labels) else nothing)
      unanchored_case true =
          subst (λ (l : ℕ). Says P (fault (told.Zone why.NoAnchor l))) (sym st.labels) (says_fault P (told.Zone why.NoAnchor n) (says.itself why.NoAnchor))
      unanchored_case false = says_nothing P

      unanchored_says : Says P (unanchored s)
      unanchored_says = unanchored_case s.is_anchored

      why_says : (r : DnskeyFacts) → SaysKeys P r → (t : Bool) (line : Told) → (if t then None else Some (told.NotVouched r.number)) ≡ Some line → P line
      why_says r of true line is = absurd (let both = is in cc both)
      why_says r of false line is = subst P (same_Some (told.NotVouched r.number) line is) of.not_vouched

      unvouched_says : (r : DnskeyFacts) (k : Signing) → SaysKeys P r → SaysSigning P k → AllByRecursion (Says P) (unvouched_ways s.lead (not_vouched z r) k)
      unfolding unvouched_ways
      unvouched_says r k of signs = says_joined P s.lead (not_vouched z r) k.mend st.lead (why_says r of (has_none z)) signs

      anchored_say : (r : DnskeyFacts) → SaysKeys P r → AllByRecursion (Says P) (anchored_ways s z r (signings r))
      anchored_say r of =
          let keys = signings r in
          let sign = signings_say r of in
          all_if (Says P) (is_vouched z keys) (group_ways (Some nothing) keys z.anchors.items ++ ds_ways keys s.chains 0 z.ds.items)
          (flat_map (unvouched_ways s.lead (not_vouched z r)) keys)
          (λ e. all_append (Says P) (group_ways (Some nothing) keys z.anchors.items) (ds_ways keys s.chains 0 z.ds.items)
          (group_says (Some nothing) keys z.anchors.items (says_kept P) says.anchors sign)
          (ds_say keys s.chains 0 z.ds.items st.chains says.records sign))
          (λ e. all_flat (Says P) (unvouched_ways s.lead (not_vouched z r)) keys
          (λ k among. unvouched_says r k of (all_among (SaysSigning P) keys k sign among)))

      dnskey_says : (r : DnskeyFacts) → SaysKeys P r → AllByRecursion (Says P) (dnskey_ways s z r)
      dnskey_says r of =
          all_if (Says P) r.is_trusted (nothing ∷ []) (if z.is_anchored then anchored_ways s z r (signings r) else unanchored s ∷ [])
          (λ e. (says_nothing P, tt))
          (λ e. all_if (Says P) z.is_anchored (anchored_ways s z r (signings r)) (unanchored s ∷ []) (λ f. anchored_say r of) (λ f. (unanchored_says, tt)))

      set_says : (r : DnskeyFacts) → SaysKeys P r → SaysIf P (dnskey_mend s z r)
      unfolding dnskey_mend
      set_says r of = of_ways (dnskey_ways s z r) (dnskey_says r of)

      sets_say : AllByRecursion (SaysIf P) (map (dnskey_mend s z) z.dnskeys.items)
      sets_say = all_of_map (SaysIf P) (dnskey_mend s z) z.dnskeys.items (λ r among. set_says r (says.dnskeys r among))

      zone_says : AllByRecursion (Says P) (zone_ways s z (map (dnskey_mend s z) z.dnskeys.items))
      zone_says =
          let sets = map (dnskey_mend s z) z.dnskeys.items in
          let missing = fault (told.Zone why.DnskeyMissing s.labels) in
          all_if (Says P) (is_zone_trusted z) (nothing ∷ []) (if z.is_anchored then anchored_zone_ways s z sets else unanchored s ∷ [])
          (λ e. (says_nothing P, tt))
          (λ e. all_if (Says P) z.is_anchored (anchored_zone_ways s z sets) (unanchored s ∷ [])
          (λ f. all_if (Says P) (is_none z.dnskeys.items) (after s.lead missing) (flat_map kept_ways sets)
          (λ none. says_after P s.lead missing st.lead (says_fault P (told.Zone why.DnskeyMissing s.labels)
          (subst (λ (l : ℕ). P (told.Zone why.DnskeyMissing l)) (sym st.labels) (says.itself why.DnskeyMissing))))
          (λ some. all_flat (Says P) kept_ways sets (λ o among. kept_says o (all_among (SaysIf P) sets o sets_say among))))
          (λ f. (unanchored_says, tt)))

      holder_says : (place : ℕ) → AllByRecursion (Says P) (holder_ways (map (dnskey_mend s z) z.dnskeys.items) place)
      unfolding holder_ways
      holder_says place = all_ways (mend_at (map (dnskey_mend s z) z.dnskeys.items) place) (mend_says (map (dnskey_mend s z) z.dnskeys.items) place sets_say)

      key_says : (key : ZoneKey) → SaysIf P (held (map (dnskey_mend s z) z.dnskeys.items) key).mend
      unfolding held
      key_says key =
          let sets = map (dnskey_mend s z) z.dnskeys.items in
          of_ways (flat_map (holder_ways sets) key.holders.items) (all_flat (Says P) (holder_ways sets) key.holders.items (λ h among. holder_says h))

      level_says : SaysLevel P (level_of s z)
      level_says = record {
        zone = of_ways (zone_ways s z (map (dnskey_mend s z) z.dnskeys.items)) zone_says;
        keys = all_of_map (λ (k : Held). SaysIf P k.mend) (held (map (dnskey_mend s z) z.dnskeys.items)) z.keys.items (λ key among. key_says key);
      }

  over_says : (is_anchored : Bool) (levels : List Leveled) (z : ZoneFacts) → AllByRecursion (SaysLevel P) levels → SaysZone P (length levels) z
      → SaysLevel P (level_over is_anchored levels z)
  unfolding level_over
  over_says is_anchored levels z all says =
      let chains = chains_say (length levels) z says levels all in
      level_says (length levels) z says (standing_of is_anchored levels z) (record {
        labels = refl;
        lead = of_ways (lead_ways (length levels) levels z (chains_of levels z)) (lead_says (length levels) z says levels (chains_of levels z) all chains);
        chains = chains;
      })

  levels_say_from : (zones front rest : List ZoneFacts) (is_anchored : Bool) (levels : List Leveled)
      → ((n : ℕ) (z : ZoneFacts) → slice_get zones n ≡ Some z → SaysZone P n z)
      → zones ≡ front ++ rest → length levels ≡ length front → AllByRecursion (SaysLevel P) levels → AllByRecursion (SaysLevel P) (levels_from is_anchored levels rest)
  levels_say_from zones front [] is_anchored levels each whole size all = all
  levels_say_from zones front (z ∷ rest) is_anchored levels each whole size all =
      let at : slice_get zones (length levels) ≡ Some z =
      ap (slice_get zones) size ∙ ap (λ (these : List ZoneFacts). slice_get these (length front)) whole ∙ at_seam front z rest in
      let next = level_over is_anchored levels z in
      levels_say_from zones (front ++ z ∷ []) rest is_anchored (levels ++ next ∷ []) each (whole ∙ sym (append_assoc front (z ∷ []) rest))
      (length-append levels (next ∷ []) ∙ ap (λ n. n + 1) size ∙ sym (length-append front (z ∷ [])))
      (all_append (SaysLevel P) levels (next ∷ []) all (over_says is_anchored levels z all (each (length levels) z at), tt))

  -- what is kept of zones says so of each line
  pub levels_say : (zones : List ZoneFacts) (is_anchored : Bool) → ((n : ℕ) (z : ZoneFacts) → slice_get zones n ≡ Some z → SaysZone P n z)
      → AllByRecursion (SaysLevel P) (levels_of is_anchored zones)
  levels_say zones is_anchored each = levels_say_from zones [] zones is_anchored [] each refl refl tt
