-- Where the last record of a message begins.
pub mod TailLaws
use Rattle.std.specs.Prelude.{◌≡◌, ℕ, List, [], ◌∷◌, ◌++◌, length, Option, Some, None}
use Rattle.dnsv_message.specs.declared.record.Record.{Record}
use Rattle.dnsv_message.specs.Message.{Contents, records_of}
use Rattle.dnsv_message.specs.Grammar.{InOrder, QuestionAt, RecordAt}

-- The last of the things that stand one after another from `start` on up to `end` begins at the place, if there is
-- one: the others stand before the place, and it stands from there to the end.
abbrev pub LastAt : {X : Type 0} → (ℕ → X → ℕ → Type 0) → ℕ → List X → ℕ → Option ℕ → Type 0
LastAt At start xs end None = xs ≡ []
LastAt {X} At start xs end (Some place) =
    (others : List X) × (last : X) × (xs ≡ others ++ last ∷ []) × InOrder At start others place × At place last end

-- The last record of the message begins at the place: up to there the octets are the header, the questions and all
-- other records, and the last record stands from there to their end.
pub record TailAt (octets : List ℕ) (message : Contents) (place : ℕ) : Type 0 where
  pub others : List Record
  pub last : Record
  pub records : records_of message ≡ others ++ last ∷ []
  pub after_questions : ℕ
  pub questions : InOrder (QuestionAt octets) 12 message.questions after_questions
  pub before : InOrder (RecordAt octets) after_questions others place
  pub stands : RecordAt octets place last (length octets)

-- the place where the last record of the message begins, or none where it has no records
abbrev pub IsTailOf : List ℕ → Contents → Option ℕ → Type 0
IsTailOf octets message None = records_of message ≡ []
IsTailOf octets message (Some place) = TailAt octets message place
