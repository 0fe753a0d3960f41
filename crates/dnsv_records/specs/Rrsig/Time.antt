-- The times of a signature as serial numbers of 32 bits (RFC 1982, RFC 4034 3.1.5).
use Rattle.std.specs.Prelude.{ℕ, ◌+◌, ◌-◌, ◌%◌, ◌^◌, ◌<◌}

-- how far it is from one time on to another, around the circle of 2^32 seconds: (to - from) modulo 2^32
abbrev pub seconds_on : ℕ → ℕ → ℕ
seconds_on from to = (to + (2 ^ 32 - from % 2 ^ 32)) % 2 ^ 32

-- the moment is not before the inception, nor the expiration before the moment (RFC 1982 3.2); a distance of
-- exactly 2^31, which stands for neither, does not count
pub record ValidAt (inception expiration moment : ℕ) : Type 0 where
  pub begun : seconds_on inception moment < 2 ^ 31
  pub not_over : seconds_on moment expiration < 2 ^ 31
