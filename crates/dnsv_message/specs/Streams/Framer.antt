-- A stream of messages that comes in pieces, each of which is read behind the rest that the pieces before it left.
use Rattle.std.specs.Prelude.{◌≡◌, ◌≢◌, ◌⊎◌, ℕ, List, [], ◌∷◌, ◌++◌, Option, Some, None}
use Rattle.dnsv_message.specs.declared.errors.ReadError.{ReadError}
use Rattle.dnsv_message.specs.declared.errors.ReadError.TheVariants.{OutOfMemory, ZeroLength, TornFrame}
use Rattle.dnsv_message.specs.Streams.Frames.{BeginsWith, Frames, IsZero}

-- what is seen of a framer: the rest of the stream that it was fed with, and why it has failed, if it has
pub record Framing : Type 0 where
  pub rest : List ℕ
  pub fault : Option ReadError

-- messages came to the end of the old ones: those of the stream, of which this rest is left
pub record Gains (old new : List (List ℕ)) (stream rest : List ℕ) : Type 0 where
  pub messages : List (List ℕ)
  pub gained : new ≡ old ++ messages
  pub frames : Frames stream messages rest

-- messages came to the end of the old ones: the first of the stream, not all of them perhaps
pub record GainsFirst (old new : List (List ℕ)) (stream : List ℕ) : Type 0 where
  pub messages : List (List ℕ)
  pub gained : new ≡ old ++ messages
  pub begins : BeginsWith stream messages

-- a rest is kept as it is, but of one that begins with the length 0 that alone
abbrev pub KeepsRest : List ℕ → List ℕ → Type 0
KeepsRest rest kept = ((¬ IsZero rest) × (kept ≡ rest)) ⊎ (IsZero rest × (kept ≡ 0 ∷ (0 ∷ [])))

-- a piece comes behind a rest: the messages of both, joined, are added, and what is left then is kept
pub record Feeds (rest piece : List ℕ) (old new : List (List ℕ)) (kept : List ℕ) : Type 0 where
  pub left : List ℕ
  pub gains : Gains old new (rest ++ piece) left
  pub keeps : KeepsRest left kept

-- pieces come one after another
abbrev pub FeedsAll : List ℕ → List (List ℕ) → List (List ℕ) → List (List ℕ) → List ℕ → Type 0
FeedsAll rest [] old new kept = (new ≡ old) × (kept ≡ rest)
FeedsAll rest (piece ∷ pieces) old new kept =
    (mid : List (List ℕ)) × (between : List ℕ) × Feeds rest piece old mid between × FeedsAll between pieces mid new kept

-- what goes wrong with a piece of a stream
abbrev pub IsPieceError : ReadError → Type 0
IsPieceError OutOfMemory = Unit {0}
IsPieceError ZeroLength = Unit {0}
IsPieceError _ = ⊥

-- why the stream may not end: the framer has failed, or a beginning of a frame is left
abbrev pub IsEndError : Framing → ReadError → Type 0
IsEndError framing error =
    (framing.fault ≡ Some error)
    ⊎ ((framing.fault ≡ None) × (error ≡ TornFrame) × (framing.rest ≢ []) × ¬ IsZero framing.rest)
