-- What a call that reads a stream until it ends or is at fault does with the stream.
pub mod Counted
pub mod Framer
pub mod Frames
pub mod OpenFrame
use Rattle.std.specs.Prelude.{ℕ, ◌<◌, ◌-◌, ◌^◌, List, Option, Result, IsErrOf, OnOk}
use Rattle.std.specs.Io.KnownBytes.{IsAtEnd}
use Rattle.dnsv_message.specs.declared.errors.ReadError.{ReadError}
use Rattle.dnsv_message.specs.declared.errors.ReadError.TheVariants.{Read}
use Rattle.dnsv_message.specs.Streams.Frames.{StopsAtFault}

-- The stream has ended where the call succeeded, and no more of it was read than had to be. `old` and `new` are the
-- octets that its reader still has, where it tells them; `before` and `after` count the calls of the reader that
-- failed. Octets that are fine have no fault.
pub record ReadsStream {T : Type 0} (IsFine : List ℕ → Type 0)
    (old new : Option (List ℕ)) (before after : ℕ) (result : Result T ReadError) : Type 0 where
  pub end : OnOk result (IsAtEnd new)
  -- nothing is read behind the piece in which a fault stands, nor after a read that failed
  pub stops : StopsAtFault IsFine 4096 old new
  pub stops_failed : IsErrOf result Read → StopsAtFault IsFine 0 old new
  -- the reader failed, at any reader: by the count, unless that began at its greatest value
  pub read : IsErrOf result Read → before < 2 ^ 64 - 1 → before < after
  pub failed : before < after → IsErrOf result Read
