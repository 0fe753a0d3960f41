-- A stream of messages, as TCP carries them: each behind its length in two octets, the high octet first
-- (RFC 1035 4.2.2).
use Rattle.std.specs.Prelude.{◌≡◌, ◌≢◌, ℕ, ◌/◌, ◌%◌, ◌<◌, ◌≤◌, List, [], ◌∷◌, ◌++◌, length, take, map, flat_map, Option, Vec}
use Rattle.std.specs.List.{AllByRecursion}
use Rattle.std.specs.Io.KnownBytes.{Consumes}
use Rattle.std.specs.declared.alloc.Global.{Global}
use Rattle.std.specs.Borrow.{Bor}

-- the octets of each message
abbrev pub octets_of_each : List (Vec ℕ Global) → List (List ℕ)
octets_of_each messages = map (λ message. message.items) messages

-- and where they are borrowed
abbrev pub octets_at_each : List (Bor (List ℕ)) → List (List ℕ)
octets_at_each messages = map (λ message. message.now) messages

-- a message behind its length
abbrev pub frame : List ℕ → List ℕ
frame message = length message / 256 ∷ (length message % 256 ∷ message)

-- a message that two octets of length can announce, and that isn't empty
pub record IsFramed (message : List ℕ) : Type 0 where
  pub not_empty : 0 < length message
  pub at_most_65535 : length message ≤ 65535

-- the octets begin with no whole frame
abbrev pub BeginsNoFrame : List ℕ → Type 0
BeginsNoFrame octets = (message more : List ℕ) → IsFramed message → octets ≡ frame message ++ more → ⊥

-- the stream is the frames of these messages and then the rest, which begins with no whole frame
pub record Frames (stream : List ℕ) (messages : List (List ℕ)) (rest : List ℕ) : Type 0 where
  pub whole : stream ≡ flat_map frame messages ++ rest
  pub each : AllByRecursion IsFramed messages
  pub no_more : BeginsNoFrame rest

-- the stream begins with the frames of these messages
pub record BeginsWith (stream : List ℕ) (messages : List (List ℕ)) : Type 0 where
  pub more : List ℕ
  pub whole : stream ≡ flat_map frame messages ++ more
  pub each : AllByRecursion IsFramed messages

-- the rest begins with the length 0
abbrev pub IsZero : List ℕ → Type 0
IsZero rest = (more : List ℕ) × (rest ≡ 0 ∷ (0 ∷ more))

-- how many octets a file may have: 2^30
abbrev pub file_limit : ℕ
file_limit = 1073741824

-- the file holds these messages and nothing else
pub record IsCapture (file : List ℕ) (messages : List (List ℕ)) : Type 0 where
  pub within : length file ≤ file_limit
  pub frames : Frames file messages []

-- a length 0 stands in a frame's place, and both of its octets lie within the limit
abbrev pub HasZeroLength : List ℕ → Type 0
HasZeroLength file =
    (messages : List (List ℕ)) × (rest : List ℕ) × Frames (take file_limit file) messages rest × IsZero rest

-- the file ends within a frame
abbrev pub EndsTorn : List ℕ → Type 0
EndsTorn file =
    (length file ≤ file_limit)
    × ((messages : List (List ℕ)) × (rest : List ℕ) × Frames file messages rest × (rest ≢ []) × ¬ IsZero rest)

-- an octet lies past the limit, and no length 0 before it
abbrev pub IsTooLong : List ℕ → Type 0
IsTooLong file = (file_limit < length file) × ¬ HasZeroLength file

-- these octets of a file have no fault: they keep the limit, and no length 0 stands in a frame's place
abbrev pub HasNoFault : List ℕ → Type 0
HasNoFault octets = (length octets ≤ file_limit) × ¬ HasZeroLength octets

-- Where a reader's octets are known, what was read of them is some octets without a fault, and then so many more
-- at most: nothing is read behind the piece in which a fault stands.
pub data StopsAtFault (IsFine : List ℕ → Type 0) (more : ℕ) (old new : Option (List ℕ)) : Type 0 where
  stops : (before piece : List ℕ)
      → IsFine before
      → length piece ≤ more
      → Consumes old new (before ++ piece)
      → StopsAtFault IsFine more old new
