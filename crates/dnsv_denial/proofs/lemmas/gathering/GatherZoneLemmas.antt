-- Zones that are gathered one after another.
use Rattle.std.proofs.Common.{◌≡◌, ℕ, zero, suc, ◌+◌, List, [], ◌∷◌, ◌++◌, length, refl, sym, ap, ◌∙◌, subst, arith, length-append}
use Rattle.std.specs.Prelude.{Some, slice_get}
use Rattle.dnsv_names.specs.Name.{Labels, rightmost}
use Rattle.dnsv_canonical.specs.Rrsets.{ReceivedRrset}
use Rattle.dnsv_denial.specs.gathering.Kept.{IsZoneOf}
use Rattle.dnsv_denial.specs.declared.gathering.zone_records.ZoneRecords.{ZoneRecords}

each_push : {X : Type 0} (xs : List X) (x : X) (P : ℕ → X → Type 0) → ((k : ℕ) (y : X) → slice_get xs k ≡ Some y → P k y) → P (length xs) x
    → (k : ℕ) (y : X) → slice_get (xs ++ x ∷ []) k ≡ Some y → P k y
each_push [] x P before last zero y there = let is : x ≡ y = cc in subst (P 0) is last
each_push [] x P before last (suc k) y there = cc
each_push (z ∷ xs) x P before last zero y there = before zero y there
each_push (z ∷ xs) x P before last (suc k) y there = each_push xs x (λ m. P (suc m)) (λ m w at. before (suc m) w at) last k y there

module _ (Secured : ℕ → ℕ → Type 0) (rrsets : List ReceivedRrset) (name : Labels) where
  -- the zones of so many numbers of labels
  pub record AreZonesTo (n : ℕ) (zones : List ZoneRecords) : Type 0 where
    pub count : length zones ≡ n
    pub each : (k : ℕ) (kept : ZoneRecords) → slice_get zones k ≡ Some kept → (kept.zone ≡ rightmost name k) × IsZoneOf Secured rrsets kept

  pub no_zones : AreZonesTo 0 []
  no_zones = record { count = refl; each = λ k kept there. cc }

  pub zone_more : (n : ℕ) (zones : List ZoneRecords) (kept : ZoneRecords) → kept.zone ≡ rightmost name n → IsZoneOf Secured rrsets kept
      → AreZonesTo n zones → AreZonesTo (n + 1) (zones ++ kept ∷ [])
  zone_more n zones kept is of so_far = record {
    count = omega (arith, length-append zones (kept ∷ []), so_far.count);
    each = each_push zones kept (λ k each. (each.zone ≡ rightmost name k) × IsZoneOf Secured rrsets each) so_far.each
        (is ∙ ap (rightmost name) (sym so_far.count), of);
  }
