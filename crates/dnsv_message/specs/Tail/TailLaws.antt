-- Where the last record of a message can begin, for proofs. The law `one_tail` states it.
use Rattle.std.proofs.Common.{ℕ, ◌<◌, ◌≤◌, List, [], ◌∷◌, length, arith}
use Rattle.dnsv_names.specs.Name.{Labels}
use Rattle.dnsv_message.specs.declared.record.Question.{Question}
use Rattle.dnsv_message.specs.declared.record.Record.{Record}
use Rattle.dnsv_message.specs.Message.{Contents}
use Rattle.dnsv_message.specs.NameAt.{NameAt, root, label, pointer}
use Rattle.dnsv_message.specs.Grammar.{InOrder, QuestionAt, RecordAt}
use Rattle.dnsv_message.specs.Tail.{TailAt}

module _ (octets : List ℕ) where
  -- what follows a name stands behind its place
  pub name_rises : (place run pointers : ℕ) (labels : Labels) (end : ℕ) → NameAt octets place run pointers labels end → place < end
  name_rises place run pointers labels end (root at) = omega arith
  name_rises place run pointers labels end (label {first = first} at more) = omega (arith, name_rises _ _ _ _ _ more)
  name_rises place run pointers labels end (pointer at back more) = omega arith

  InOrder-rises : {X : Type 0} (At : ℕ → X → ℕ → Type 0) → ((place : ℕ) (x : X) (end : ℕ) → At place x end → place < end) → (xs : List X) (place end : ℕ) → InOrder At place xs end → place ≤ end
  InOrder-rises At rises [] place end order = omega (arith, order)
  InOrder-rises At rises (x ∷ xs) place end order =
      omega (arith, rises place x order.0 order.1, InOrder-rises At rises xs order.0 end order.2)

  question_rises : (place : ℕ) (question : Question) (end : ℕ) → QuestionAt octets place question end → place < end
  question_rises place question end at = omega (arith, at.ends, name_rises _ _ _ _ _ at.name.0)

  record_rises : (place : ℕ) (resource : Record) (end : ℕ) → RecordAt octets place resource end → place < end
  record_rises place resource end at = omega (arith, at.ends, at.head.starts, name_rises _ _ _ _ _ at.head.named.0)

  -- the last record begins behind the header and within the octets
  pub TailAt-bounds : (message : Contents) (place : ℕ) → TailAt octets message place → (12 ≤ place) × (place < length octets)
  TailAt-bounds message place tail = (
    omega (arith, InOrder-rises (QuestionAt octets) question_rises message.questions 12 tail.after_questions tail.questions, InOrder-rises (RecordAt octets) record_rises tail.others tail.after_questions place tail.before),
    record_rises place tail.last (length octets) tail.stands,
  )
