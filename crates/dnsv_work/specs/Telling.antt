-- What is told of help and of faults, and what is left of the output.
use Rattle.std.specs.Prelude.{◌≡◌, ◌⊎◌, ◌<◌, ◌-◌, ◌^◌, ℕ, List, Option}
use Rattle.std.specs.Io.KnownBytes.{Appends}
use Rattle.dnsv_message.specs.Streams.Counted.{AppendsBeginning, failures_of, inner_of}
use Rattle.dnsv_message.specs.declared.streams.counted.Counted.{Counted}
use Rattle.dnsv_files.specs.declared.status.Fault.{Fault}
use Rattle.dnsv_files.specs.declared.status.Fault.TheVariants as fault
use Rattle.dnsv_files.specs.Status.{fault_line}

-- The output got a text, and no write of it failed. What help says is clap's; tests see that it is all of it.
abbrev pub HasWritten : {W : Type 0} → (W → Option (List ℕ)) → Counted W → Counted W → Type 0
HasWritten contents old new = (failures_of new ≡ failures_of old)
    × ((text : List ℕ) × Appends (contents (inner_of old)) (contents (inner_of new)) text)

-- a stream got the line of the fault; or a beginning of it, and then a write failed: by the count of its calls that
-- failed, unless that began at its greatest value
abbrev pub HasToldIn : {W : Type 0} → (W → Option (List ℕ)) → Counted W → Counted W → Fault → Type 0
HasToldIn contents old new told =
    Appends (contents (inner_of old)) (contents (inner_of new)) (fault_line told)
    ⊎ ((failures_of old < 2 ^ 64 - 1 → failures_of old < failures_of new)
    × AppendsBeginning (contents (inner_of old)) (contents (inner_of new)) (fault_line told))

-- where this fault is told, a write of the output failed, or the output is as it was; where memory was wanting it may
-- have grown so
abbrev pub LeavesOutput : {W : Type 0} → Counted W → Counted W → Type 0 → Fault → Type 0
LeavesOutput old new Grew fault.WriteFailed = failures_of old < 2 ^ 64 - 1 → failures_of old < failures_of new
LeavesOutput old new Grew fault.OutOfMemory = (new ≡ old) ⊎ Grew
LeavesOutput old new Grew _ = new ≡ old
