-- Moments.
use Rattle.std.specs.Prelude.{ℕ, ◌≤◌}

-- the last moment, 2^48 - 1
abbrev pub last_moment : ℕ
last_moment = 281474976710655

abbrev pub IsMoment : ℕ → Type 0
IsMoment seconds = seconds ≤ last_moment
