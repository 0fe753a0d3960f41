-- What leads to an RRset of a zone tells why a signer isn't trusted.
use Rattle.std.proofs.Common.{if◌then◌else◌, ◌≡◌, ◌⊎◌, inl, inr, ⊎_elim, ℕ, suc, ◌+◌, ◌<◌, ◌≤◌, ◌++◌, Bool, true, false, List, [], ◌∷◌, Option, Some, None, length, flat_map, refl, sym, ap, subst, slice_get, arith}
use Rattle.std.proofs.lemmas.Option.{same_Some}
use Rattle.std.specs.List.{AllByRecursion}
use Rattle.dnsv_canonical.specs.declared.number.SignatureNumber.{SignatureNumber}
use Rattle.dnsv_mending.specs.Faults.{lines_under, signature_lines, unnamed_lines}
use Rattle.dnsv_mending.specs.Level.{Held, Leveled, above_from, zone_above}
use Rattle.dnsv_mending.specs.Mend.{Mended, after, both, fault, following, is_none, nothing, telling, untold}
use Rattle.dnsv_mending.specs.Reasons.{IsClosedRrset, IsClosedSignature, IsSignedRrset}
use Rattle.dnsv_mending.specs.Rrset.{held_way, held_ways, rrset_ways, signature_ways, signer_ways, unheld_way, unheld_ways}
use Rattle.dnsv_mending.specs.Ways.{IsAmong}
use Rattle.dnsv_mending.specs.Zone.{is_zone_trusted}
use Rattle.dnsv_mending.specs.declared.facts.signature.NamedKey.{NamedKey}
use Rattle.dnsv_mending.specs.declared.facts.signature.RrsetFacts.{RrsetFacts}
use Rattle.dnsv_mending.specs.declared.facts.signature.SignatureFacts.{SignatureFacts}
use Rattle.dnsv_mending.specs.declared.facts.zone.DsFacts.{DsFacts}
use Rattle.dnsv_mending.specs.declared.facts.zone.ZoneFacts.{ZoneFacts}
use Rattle.dnsv_mending.specs.declared.price.Class.TheVariants as class
use Rattle.dnsv_mending.specs.declared.told.Told.{Told}
use Rattle.dnsv_mending.specs.declared.told.Told.TheVariants as told
use Rattle.dnsv_mending.proofs.AllWays.{all_after, all_append, all_flat, all_if}
use Rattle.dnsv_mending.proofs.DearLines.{dear_signature}
use Rattle.dnsv_mending.proofs.Reasons.{signer_first}
use Rattle.dnsv_true_reasons.proofs.untrusted.Ending.{Ends, In, IsReason, Reasoned, SaidIf, SignatureEnds, ZoneEnds, ends_following, ends_fault, ends_nothing, ends_reasons, first_reason, in_second, reasons_of, under_ends, unnamed_ends}
use Rattle.dnsv_true_reasons.proofs.Members.{among_left, among_parts}
use Rattle.dnsv_true_reasons.proofs.telling.Says.{SaysRrset, SaysSignature, all_wrong}

module _ (zones : List ZoneFacts) (Said : ℕ → Told → Type 0) (By : SignatureNumber → ℕ → Type 0) where
  -- ---- what is kept

  -- of the zone with n labels, from the root down
  pub record LevelEnds (n : ℕ) (level : Leveled) : Type 0 where
    pub z : ZoneFacts
    pub at : slice_get zones n ≡ Some z
    pub trusted : level.is_trusted ≡ is_zone_trusted z
    pub zone : (m : Mended) → level.zone ≡ Some m → ZoneEnds zones Said By n m
    pub keys : (i : ℕ) (k : Held) → slice_get level.keys i ≡ Some k → (m : Mended) → k.mend ≡ Some m → ZoneEnds zones Said By n m

  abbrev pub AreEnding : List Leveled → Type 0
  AreEnding levels = (n : ℕ) (level : Leveled) → slice_get levels n ≡ Some level → LevelEnds n level

  abbrev pub EndsIf : Option Mended → Type 0
  EndsIf o = (m : Mended) → o ≡ Some m → Ends zones Said By m

  -- a signature, where its signer may be its zone, is by it
  abbrev pub IsBySigner : SignatureFacts → Type 0
  IsBySigner s = s.faults.signer ≡ false → By s.number s.signer

  -- the signatures of a DS RRset of the zone with n labels are by their signers, which have fewer labels
  abbrev pub AreDsBySigner : ℕ → ZoneFacts → Type 0
  AreDsBySigner n z = (ds : DsFacts) (s : SignatureFacts) → IsAmong ds z.ds.items → IsAmong s ds.rrset.signatures.items
      → IsBySigner s × (s.faults.signer ≡ false → s.signer < n)

  above_ends : (levels : List Leveled) (above : Option Mended) → EndsIf above → ((level : Leveled) → IsAmong level levels → EndsIf level.zone) → EndsIf (above_from above levels)
  above_ends [] above h each = h
  above_ends (level ∷ levels) above h each =
      above_ends levels (if level.leads then level.zone else above) (next level.leads) (λ other among. each other (inr among))
    where
      next : (t : Bool) → EndsIf (if t then level.zone else above)
      next true = each level (inl refl)
      next false = h

  kept_nothing : EndsIf (Some nothing)
  kept_nothing m is = subst (Ends zones Said By) (same_Some nothing m is) (ends_nothing zones Said By)

  place_of : (levels : List Leveled) (level : Leveled) → IsAmong level levels → (n : ℕ) × (slice_get levels n ≡ Some level)
  place_of [] level among = absurd among
  place_of (x ∷ xs) level among = ⊎_elim (λ (e : level ≡ x). (0, ap Some (sym e)))
      (λ (e : IsAmong level xs). let rest = place_of xs level e in (suc rest.0, rest.1)) among

  pub zone_above_ends : (levels : List Leveled) → AreEnding levels → EndsIf (zone_above levels)
  zone_above_ends levels good = above_ends levels (Some nothing) kept_nothing
      (λ level among m is. let at = place_of levels level among in ((good at.0 level at.1).zone m is).ends)

  -- ---- signatures

  module _ (levels : List Leveled) (good : AreEnding levels) (s : SignatureFacts) (its : IsBySigner s) (closed : IsClosedSignature zones s) where
    in_telling_from : (lines : List Told) (t : Told) → In t (telling lines) → IsAmong t lines
    in_telling_from lines t (inl there) = absurd there
    in_telling_from lines t (inr there) = there

    in_untold_from : (lines : List Told) (t : Told) → In t (both (telling lines) (untold class.NotFitting)) → IsAmong t lines
    in_untold_from lines t (inl there) = absurd there
    in_untold_from lines t (inr there) = ⊎_elim (λ (h : IsAmong t lines). h) (λ (none : ⊥). absurd none) (among_parts t lines [] there)

    held_ends : (level : Leveled) (g : LevelEnds s.signer level) (k : NamedKey) (o : Option Held) → slice_get level.keys k.key ≡ o
        → AllByRecursion (SignatureEnds zones Said By s) (held_way level.is_trusted s k o)
    held_ends level g k None at = tt
    held_ends level g k (Some h) at = all_after (SignatureEnds zones Said By s) h.mend (telling (lines_under level.is_trusted s k)) (λ m is.
        under_ends zones Said By s its level.is_trusted k m (telling (lines_under level.is_trusted s k)) g.z g.at (g.keys k.key h at m is)
        (in_telling_from (lines_under level.is_trusted s k)) (λ t among. inr among) g.trusted)

    unheld_ends : (level : Leveled) (g : LevelEnds s.signer level) (k : NamedKey) (o : Option Held) → AllByRecursion (SignatureEnds zones Said By s) (unheld_way level s k o)
    unheld_ends level g k None = tt
    unheld_ends level g k (Some h) =
        let own = both (telling (lines_under level.is_trusted s k)) (untold class.NotFitting) in
        all_if (SignatureEnds zones Said By s) h.is_trusted [] (after level.zone own) (λ e. tt)
        (λ e. all_after (SignatureEnds zones Said By s) level.zone own (λ m is.
        under_ends zones Said By s its level.is_trusted k m own g.z g.at (g.zone m is)
        (in_untold_from (lines_under level.is_trusted s k)) (λ t among. inr (among_left t (lines_under level.is_trusted s k) [] among)) g.trusted))

    held_each : (level : Leveled) (g : LevelEnds s.signer level) (k : NamedKey) → AllByRecursion (SignatureEnds zones Said By s) (held_ways level s k)
    unfolding held_ways
    held_each level g k = held_ends level g k (slice_get level.keys k.key) refl

    unheld_each : (level : Leveled) (g : LevelEnds s.signer level) (k : NamedKey) → AllByRecursion (SignatureEnds zones Said By s) (unheld_ways level s k)
    unfolding unheld_ways
    unheld_each level g k = unheld_ends level g k (slice_get level.keys k.key)

    signer_ends : (o : Option Leveled) → slice_get levels s.signer ≡ o → AllByRecursion (SignatureEnds zones Said By s) (signer_ways s o)
    signer_ends None at = tt
    signer_ends (Some level) at =
        let g = good s.signer level at in
        all_if (SignatureEnds zones Said By s) (is_none s.keys.items) (after level.zone (telling (unnamed_lines s)))
        (flat_map (held_ways level s) s.keys.items ++ flat_map (unheld_ways level s) s.keys.items)
        (λ none. all_after (SignatureEnds zones Said By s) level.zone (telling (unnamed_lines s)) (λ m is.
        unnamed_ends zones Said By s its m g.z g.at (g.zone m is) (λ clean. closed.unnamed g.z g.at none clean)))
        (λ some. all_append (SignatureEnds zones Said By s) (flat_map (held_ways level s) s.keys.items) (flat_map (unheld_ways level s) s.keys.items)
        (all_flat (SignatureEnds zones Said By s) (held_ways level s) s.keys.items (λ k among. held_each level g k))
        (all_flat (SignatureEnds zones Said By s) (unheld_ways level s) s.keys.items (λ k among. unheld_each level g k)))

    other_lines : (lines : List Told) → signature_lines s ≡ lines → (n : ℕ) → SaysSignature (SaidIf Said n) s.number → (m : Mended) → s.faults.signer ≡ true
        → Reasoned Said n (following m (telling lines))
    other_lines [] is n says m off = absurd (signer_first s off is)
    other_lines (x ∷ xs) is n says m off = first_reason zones Said By n x xs
        (subst (λ (ls : List Told). AllByRecursion IsReason ls) is (reasons_of (signature_lines s) (dear_signature s)))
        (subst (λ (ls : List Told). AllByRecursion (SaidIf Said n) ls) is (all_wrong (SaidIf Said n) s says))
        (following m (telling (x ∷ xs))) (λ h. in_second x m (telling (x ∷ xs)) h)

    pub signature_ends : (above : Option Mended) → EndsIf above → AllByRecursion (SignatureEnds zones Said By s) (signature_ways levels above s)
    unfolding signature_ways
    signature_ends above up =
        all_if (SignatureEnds zones Said By s) s.is_signed (nothing ∷ []) (if s.faults.signer then after above (telling (signature_lines s)) else signer_ways s (slice_get levels s.signer))
        (λ e. (record { ends = ends_nothing zones Said By; led = inl e; told = λ n within says. inl e }, tt))
        (λ e. all_if (SignatureEnds zones Said By s) s.faults.signer (after above (telling (signature_lines s))) (signer_ways s (slice_get levels s.signer))
        (λ f. all_after (SignatureEnds zones Said By s) above (telling (signature_lines s)) (λ m is. record {
          ends = ends_following zones Said By m (telling (signature_lines s)) (up m is)
              (ends_reasons zones Said By (signature_lines s) (reasons_of (signature_lines s) (dear_signature s)));
          led = inr (inl f);
          told = λ n within says. inr (other_lines (signature_lines s) refl n says m f);
        }))
        (λ f. signer_ends (slice_get levels s.signer) refl))

  -- ---- an RRset of the zone with n labels, by the zones above

  pub record RrsetEnds (n : ℕ) (r : RrsetFacts) (m : Mended) : Type 0 where
    pub ends : Ends zones Said By m
    pub told : IsSignedRrset r ⊎ Reasoned Said n m

  module _ (levels : List Leveled) (good : AreEnding levels) (r : RrsetFacts) (its : (s : SignatureFacts) → IsAmong s r.signatures.items → IsBySigner s)
      (closed : IsClosedRrset zones r) where
    pub rrset_ends : (above : Option Mended) (n : ℕ) → length levels ≤ n → EndsIf above → SaysRrset (SaidIf Said n) r
        → ((s : SignatureFacts) → IsAmong s r.signatures.items → s.faults.signer ≡ false → s.signer < length levels)
        → AllByRecursion (RrsetEnds n r) (rrset_ways levels above r)
    rrset_ends above n within up says inside =
        all_if (RrsetEnds n r) (is_none r.signatures.items) (after above (fault (told.Unsigned r.number))) (flat_map (signature_ways levels above) r.signatures.items)
        (λ none. all_after (RrsetEnds n r) above (fault (told.Unsigned r.number)) (λ m is. record {
          ends = ends_following zones Said By m (fault (told.Unsigned r.number)) (up m is) (ends_fault zones Said By (told.Unsigned r.number) refl);
          told = inr (first_reason zones Said By n (told.Unsigned r.number) [] (refl, tt) (says.unsigned, tt) (following m (fault (told.Unsigned r.number)))
              (λ h. in_second (told.Unsigned r.number) m (fault (told.Unsigned r.number)) h));
        }))
        (λ some. all_flat (RrsetEnds n r) (signature_ways levels above) r.signatures.items (λ s among.
        each_way s among (signature_ways levels above s) (signature_ends levels good s (its s among) (closed s among) above up)))
      where
        one_way : (s : SignatureFacts) → IsAmong s r.signatures.items → (m : Mended) → SignatureEnds zones Said By s m → RrsetEnds n r m
        one_way s among m e = record {
          ends = e.ends;
          told = ⊎_elim (λ (h : s.is_signed ≡ true). inl (s, among, h)) (λ (h : Reasoned Said n m). inr h)
              (e.told n (λ off. let below = inside s among off in omega (arith, below, within)) (says.signatures s among));
        }

        each_way : (s : SignatureFacts) → IsAmong s r.signatures.items → (ways : List Mended) → AllByRecursion (SignatureEnds zones Said By s) ways → AllByRecursion (RrsetEnds n r) ways
        each_way s among [] all = tt
        each_way s among (m ∷ ms) all = (one_way s among m all.0, each_way s among ms all.1)
