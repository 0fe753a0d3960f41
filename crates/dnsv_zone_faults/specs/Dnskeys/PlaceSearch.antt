-- How places of keys are compared. No public clause cites this module.
use Rattle.std.specs.Prelude.{◌≢◌, ℕ, List, Contains}

-- another place is one of them
pub record HasOther (places : List ℕ) (place : ℕ) : Type 0 where
  pub other : ℕ
  pub among : Contains places other
  pub apart : other ≢ place
