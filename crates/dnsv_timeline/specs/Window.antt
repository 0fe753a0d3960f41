-- How far behind its inception a signature is valid. No public clause cites this module.
use Rattle.std.specs.Prelude.{◌≡◌, ℕ, ◌+◌, ◌<◌, ◌≤◌, ◌⊎◌, ◌↔◌, List, Contains}
use Rattle.dnsv_records.specs.Rrsig.Time.{seconds_on}
use Rattle.dnsv_timeline.specs.declared.times.Times.{Times}
use Rattle.dnsv_timeline.specs.Points.{IsChangeWithin, IsPoint, IsValidAt}

-- from so many seconds behind the inception on, until before so many
pub record IsWindow (times : Times) (start end : ℕ) : Type 0 where
  pub some : start < end
  pub small : end ≤ 2147483648
  pub valid : (moment : ℕ)
      → IsValidAt times moment ↔ ((start ≤ seconds_on times.inception.0 moment) × (seconds_on times.inception.0 moment < end))

-- the new list has what the old one has, and where the second number is from 1 up to the limit, their sum
pub record AddsBehind (from limit seconds : ℕ) (old new : List ℕ) : Type 0 where
  pub members : (moment : ℕ)
      → Contains new moment ↔ (Contains old moment ⊎ ((0 < seconds) × (seconds ≤ limit) × (moment ≡ from + seconds)))

-- the new list has what the old one has, and where the signature changes
pub record AddsChanges (from to : ℕ) (times : Times) (old new : List ℕ) : Type 0 where
  pub members : (moment : ℕ) → Contains new moment ↔ (Contains old moment ⊎ IsChangeWithin from to times moment)

-- just the moments at which one of the signatures changes
abbrev pub AreChanges : ℕ → ℕ → List Times → List ℕ → Type 0
AreChanges from to signatures moments = (moment : ℕ) → Contains moments moment ↔ IsPoint from to signatures moment
