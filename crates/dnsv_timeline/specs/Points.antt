-- Points of change: the moments at which a signature begins to be valid, or is valid no more (RFC 4034 3.1.5).
use Rattle.std.specs.Prelude.{ℕ, ◌-◌, ◌<◌, ◌≤◌, ◌⊎◌, ◌↔◌, List, Contains}
use Rattle.std.specs.List.Sorted.{IsStrictlyIncreasing}
use Rattle.dnsv_records.specs.Rrsig.Time.{ValidAt}
use Rattle.dnsv_timeline.specs.declared.times.Times.{Times}

-- the signature with these times is valid at the moment
abbrev pub IsValidAt : Times → ℕ → Type 0
IsValidAt times moment = ValidAt times.inception.0 times.expiration.0 moment

-- it is valid at some moment of the range
pub record IsValidWithin (times : Times) (from to : ℕ) : Type 0 where
  pub moment : ℕ
  pub begins : from ≤ moment
  pub ends : moment ≤ to
  pub valid : IsValidAt times moment

-- it is valid at the moment, and wasn't one second before
abbrev pub Begins : Times → ℕ → Type 0
Begins times moment = (¬ IsValidAt times (moment - 1)) × IsValidAt times moment

-- it isn't valid at the moment, and was one second before
abbrev pub Ends : Times → ℕ → Type 0
Ends times moment = IsValidAt times (moment - 1) × ¬ IsValidAt times moment

abbrev pub IsChange : Times → ℕ → Type 0
IsChange times moment = Begins times moment ⊎ Ends times moment

-- the moment is behind the first of a range, by its last at most, and the signature changes there
pub record IsChangeWithin (from to : ℕ) (times : Times) (moment : ℕ) : Type 0 where
  pub behind : from < moment
  pub within : moment ≤ to
  pub changes : IsChange times moment

-- one of the signatures changes there
abbrev pub IsPoint : ℕ → ℕ → List Times → ℕ → Type 0
IsPoint from to signatures moment =
    (times : Times) × Contains signatures times × IsChangeWithin from to times moment

-- the points of change of the signatures behind the first moment, each once, rising
pub record ArePoints (from to : ℕ) (signatures : List Times) (points : List ℕ) : Type 0 where
  pub rising : IsStrictlyIncreasing points
  pub members : (moment : ℕ) → Contains points moment ↔ IsPoint from to signatures moment
