-- Ranges of moments.
use Rattle.std.specs.Prelude.{ℕ, ◌-◌, ◌<◌, ◌≤◌}

-- the first moment and the last
pub record Moments : Type 0 where
  pub from : ℕ
  pub to : ℕ

-- The last isn't before the first, and less than 2^32 seconds behind it: the times of signatures are serial numbers of
-- 32 bits, so what is valid repeats each 2^32 seconds (RFC 4034 3.1.5).
pub record IsRange (from to : ℕ) : Type 0 where
  pub turned : from ≤ to
  pub long : to - from < 4294967296
