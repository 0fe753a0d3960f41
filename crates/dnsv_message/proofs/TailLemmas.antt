-- The last of things that stand one after another, and the last record of a message.
use Rattle.std.proofs.Common.{◌≡◌, ℕ, ◌<◌, List, [], ◌∷◌, ◌++◌, length, get_or, refl, sym, ap, subst, ◌∙◌, arith, append_assoc, length-append, Option, Some, None}
use Rattle.std.specs.Option.{option_or}
use Rattle.std.proofs.lemmas.List.{append-nil}
use Rattle.dnsv_message.specs.Message.{Contents, records_of}
use Rattle.dnsv_message.specs.Grammar.{InOrder, QuestionAt, RecordAt, MessageOf}
use Rattle.dnsv_message.specs.Tail.{LastAt, IsTailOf}
use Rattle.dnsv_message.proofs.MessageLaws.{questions_same, records_same}
use Rattle.dnsv_message.proofs.Sequences.{InOrder-append}

or_assoc : (a b c : Option ℕ) → option_or (option_or a b) c ≡ option_or a (option_or b c)
or_assoc None b c = refl
or_assoc (Some place) b c = refl

module _ {X : Type 0} (At : ℕ → X → ℕ → Type 0) where
  -- the last of things behind things, or else the last of those
  pub LastAt-or : (xs ys : List X) (start middle end : ℕ) (a b : Option ℕ) → InOrder At start xs middle → InOrder At middle ys end → LastAt At start xs middle a → LastAt At middle ys end b → LastAt At start (xs ++ ys) end (option_or b a)
  LastAt-or xs ys start middle end None None front behind first second = rw (first, second) refl
  LastAt-or xs ys start middle end (Some place) None front behind first second =
      let ends : end ≡ middle = subst (λ zs. InOrder At middle zs end) second behind in
      let same : xs ++ ys ≡ first.0 ++ first.1 ∷ [] = ap (λ zs. xs ++ zs) second ∙ append-nil xs ∙ first.2 in
      (first.0, first.1, same, first.3, subst (At place first.1) (sym ends) first.4)
  LastAt-or xs ys start middle end a (Some place) front behind first second =
      let same : xs ++ ys ≡ (xs ++ second.0) ++ second.1 ∷ [] = ap (λ zs. xs ++ zs) second.2 ∙ sym (append_assoc xs second.0 (second.1 ∷ [])) in
      (xs ++ second.0, second.1, same, InOrder-append At xs second.0 start middle place front second.3, second.4)

  -- and of three
  pub LastAt-or_or : (xs ys zs : List X) (start middle next end : ℕ) (a b c : Option ℕ) → InOrder At start xs middle → InOrder At middle ys next → InOrder At next zs end
      → LastAt At start xs middle a → LastAt At middle ys next b → LastAt At next zs end c → LastAt At start (xs ++ ys ++ zs) end (option_or (option_or c b) a)
  LastAt-or_or xs ys zs start middle next end a b c one two three first second third =
      subst (LastAt At start (xs ++ ys ++ zs) end) (sym (or_assoc c b a))
      (LastAt-or (xs ++ ys) zs start next end (option_or b a) c (InOrder-append At xs ys start middle next one two) three (LastAt-or xs ys start middle next a b one two first second) third)

  -- there is a last one, or there are none
  pub LastAt-some : (xs : List X) (start end : ℕ) → InOrder At start xs end → (tail : Option ℕ) × LastAt At start xs end tail
  LastAt-some [] start end order = (None, refl)
  LastAt-some (x ∷ xs) start end order =
      let rest = LastAt-some xs order.0 end order.2 in
      let here : LastAt At start (x ∷ []) order.0 (Some start) = ([], x, refl, refl, order.1) in
      (option_or rest.0 (Some start), LastAt-or (x ∷ []) xs start order.0 end (Some start) rest.0 (order.0, order.1, refl) order.2 here rest.1)

module _ (octets : List ℕ) where
  pub IsTailOf-from_last : (message : Contents) (after_questions : ℕ) (tail : Option ℕ) → InOrder (QuestionAt octets) 12 message.questions after_questions
      → LastAt (RecordAt octets) after_questions (records_of message) (length octets) tail → IsTailOf octets message tail
  IsTailOf-from_last message after_questions None questions last = last
  IsTailOf-from_last message after_questions (Some place) questions last =
      record { others = last.0; last = last.1; records = last.2; after_questions = after_questions; questions = questions; before = last.3; stands = last.4 }

  pub records_in_order : (message : Contents) → (at : MessageOf octets message) → InOrder (RecordAt octets) at.after_questions (records_of message) (length octets)
  records_in_order message at =
      InOrder-append (RecordAt octets) (message.answer ++ message.authority) message.additional at.after_questions at.after_authority (length octets)
      (InOrder-append (RecordAt octets) message.answer message.authority at.after_questions at.after_answer at.after_authority at.answer at.authority)
      at.additional

  pub IsTailOf-some : (message : Contents) → MessageOf octets message → (tail : Option ℕ) × IsTailOf octets message tail
  IsTailOf-some message at =
      let last = LastAt-some (RecordAt octets) (records_of message) at.after_questions (length octets) (records_in_order message at) in
      (last.0, IsTailOf-from_last message at.after_questions last.0 at.questions last.1)

-- a message has its last record at one place
pub IsTailOf-same : (octets : List ℕ) → ((i : ℕ) → get_or octets i 0 < 256) → (message : Contents) (tail other : Option ℕ) → IsTailOf octets message tail → IsTailOf octets message other → tail ≡ other
IsTailOf-same octets fit message None None none none' = refl
IsTailOf-same octets fit message None (Some place) none at =
    absurd (omega (arith, ap length none, ap length at.records, length-append at.others (at.last ∷ [])))
IsTailOf-same octets fit message (Some place) None at none =
    absurd (omega (arith, ap length none, ap length at.records, length-append at.others (at.last ∷ [])))
IsTailOf-same octets fit message (Some place) (Some other) at also =
    let questions = questions_same octets fit message.questions message.questions 12 at.after_questions also.after_questions refl at.questions also.questions in
    let size : length at.others ≡ length also.others = omega (arith, ap length at.records, ap length also.records, length-append at.others (at.last ∷ []), length-append also.others (also.last ∷ [])) in
    let records = records_same octets fit at.others also.others at.after_questions place other size at.before
    (subst (λ n. InOrder (RecordAt octets) n also.others other) (sym questions.1) also.before) in
    ap Some records.1
