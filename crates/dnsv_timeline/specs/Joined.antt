-- How stretches follow from what is said at points. No public clause cites this module.
use Rattle.std.specs.Prelude.{◌≡◌, ℕ, ◌+◌, ◌-◌, ◌<◌, ◌≤◌, Bool, true, false, List, [], ◌∷◌, ◌++◌, Contains, All}
use Rattle.std.specs.List.Sorted.{IsStrictlyIncreasing}
use Rattle.dnsv_timeline.specs.declared.stretch.Stretch.{Stretch}

-- what is said changes at the points alone, which rise within the range, its first moment left out
pub record IsSteady {S : Type 0} (Said : ℕ → S → Type 0) (from to : ℕ) (points : List ℕ) : Type 0 where
  pub rising : IsStrictlyIncreasing points
  pub within : (point : ℕ) → Contains points point → (from < point) × (point ≤ to)
  pub steady : (moment : ℕ) → from < moment → moment ≤ to → ¬ Contains points moment → (said : S)
      → Said (moment - 1) said → Said moment said

-- the stretch up to that moment
abbrev pub up_to : {S : Type 0} → Stretch S → ℕ → Stretch S
up_to {S} stretch moment = record { from = stretch.from; to = moment; said = stretch.said }

-- the last stretch goes on to the point, or ends before it, is added, and another begins
abbrev pub Goes : {S : Type 0} → Bool → Stretch S → ℕ → S → List (Stretch S) → List (Stretch S) → Stretch S → Type 0
Goes {S} true last point said old new stretch = (new ≡ old) × (stretch ≡ up_to last point)
Goes {S} false last point said old new stretch =
    (new ≡ old ++ up_to last (point - 1) ∷ []) × (stretch ≡ record { from = point; to = point; said = said })
