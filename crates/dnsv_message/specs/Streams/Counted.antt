-- What is seen of a reader or writer whose failed calls are counted.
use Rattle.std.specs.Prelude.{ℕ, ◌+◌, ◌-◌, ◌^◌, min, Bool, true, ◌&&◌, not, ◌==◌, List, length, take, Option, Result, Ok, Err, if◌then◌else◌}
use Rattle.std.specs.Io.KnownBytes.{Appends}
use Rattle.dnsv_message.specs.declared.streams.counted.Counted.{Counted}

-- the reader or writer itself
abbrev pub inner_of : {T : Type 0} → Counted T → T
inner_of counted = counted.inner

-- how many calls failed
abbrev pub failures_of : {T : Type 0} → Counted T → ℕ
failures_of counted = counted.failures

-- the count after a call, which stops at its greatest value
abbrev pub count_after : ℕ → Bool → ℕ
count_after count failed = if failed then min (count + 1) (2 ^ 64 - 1) else count

-- a write failed where it answered an error or took none of some octets
abbrev pub is_failed_write : {E : Type 0} → Result ℕ E → List ℕ → Bool
is_failed_write (Ok taken) octets = (taken == 0) && not (length octets == 0)
is_failed_write (Err _) octets = true

-- the writer got the first of these octets, which may be none, or all
abbrev pub AppendsBeginning : Option (List ℕ) → Option (List ℕ) → List ℕ → Type 0
AppendsBeginning old new octets = (count : ℕ) × Appends old new (take count octets)
