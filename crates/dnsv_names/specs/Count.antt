-- Counts, each of which stops at the greatest value of 64 bits.
use Rattle.std.specs.Prelude.{ℕ, ◌+◌, ◌-◌, ◌^◌, min}

-- the greatest value of a count
abbrev pub count_limit : ℕ
count_limit = 2 ^ 64 - 1

-- what a count is after it grew: the sum, or the greatest value where the sum is above it
abbrev pub counted : ℕ → ℕ → ℕ
counted before more = min (before + more) count_limit
