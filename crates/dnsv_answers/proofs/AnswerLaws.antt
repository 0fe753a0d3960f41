-- A text is one heading with answers, or has one first fault.
use Rattle.std.proofs.Common.{◌≡◌, ℕ, List, [], ◌∷◌, Some, None, length, refl, sym, ap, subst, inl, inr, ◌∙◌, arith}
use Rattle.dnsv_names.specs.Lines.LineLaws.{HasLines-only, HasLines-read}
use Rattle.dnsv_names.specs.Lines.LineReading.{lines_in}
use Rattle.dnsv_names.specs.Lines.{HasLines, NumberedLine, kept_from}
use Rattle.dnsv_verifier.specs.declared.answer.Answer.{Answer}
use Rattle.dnsv_verifier.specs.declared.answer.Answer.TheVariants.{Invalid, Unknown, Valid}
use Rattle.dnsv_answers.specs.AnswerFile.{AnswersContents, AreAnswersOf, IsAnswerLine, IsFaultOf, IsFaultOfLines, IsFirstNoAnswer, SayAnswers, answer_text}
use Rattle.dnsv_answers.specs.Heading.{IsHeading}
use Rattle.dnsv_answers.specs.declared.error.AnswersError.{AnswersError}
use Rattle.dnsv_answers.specs.declared.error.AnswersError.TheVariants.{Syntax}
use Rattle.dnsv_answers.specs.declared.said.SaidAnswer.{SaidAnswer}
use Rattle.dnsv_answers.proofs.HeadingLemmas.{one_heading}

-- ---- answers

-- the words have different lengths
other_sizes : (line : List ℕ) (a b : Answer) → line ≡ answer_text a → line ≡ answer_text b → length (answer_text a) ≡ length (answer_text b)
other_sizes line a b p q = ap (λ (text : List ℕ). length text) (sym p ∙ q)

by_size : (a b : Answer) → length (answer_text a) ≡ length (answer_text b) → a ≡ b
by_size Valid Valid e = refl
by_size Invalid Invalid e = refl
by_size a Valid e = absurd (omega (arith, e))
by_size Unknown Unknown e = refl
by_size a b e = absurd (omega (arith, e))

one_answer : (line : List ℕ) (a b : Answer) → line ≡ answer_text a → line ≡ answer_text b → a ≡ b
one_answer line a b p q = by_size a b (other_sizes line a b p q)

one_said : (line : NumberedLine) (a b : SaidAnswer) → IsAnswerLine line a → IsAnswerLine line b → a ≡ b
one_said line a b p q =
    let numbers = p.number ∙ sym q.number in
    let answers = one_answer line.octets a.answer b.answer p.word q.word in
    λ i. record { line = numbers i; answer = answers i }

pub one_list : (lines : List NumberedLine) (a b : List SaidAnswer) → SayAnswers lines a → SayAnswers lines b → a ≡ b
one_list [] [] [] p q = refl
one_list [] [] (y ∷ b) p q = absurd q
one_list [] (x ∷ a) b p q = absurd p
one_list (line ∷ lines) [] b p q = absurd p
one_list (line ∷ lines) (x ∷ a) [] p q = absurd q
one_list (line ∷ lines) (x ∷ a) (y ∷ b) p q =
    ap (λ (z : SaidAnswer). z ∷ a) (one_said line x y p.0 q.0) ∙ ap (λ (zs : List SaidAnswer). y ∷ zs) (one_list lines a b p.1 q.1)

-- lines that say answers have no fault
pub list_stands : (lines : List NumberedLine) (said : List SaidAnswer) (fault : AnswersError) → SayAnswers lines said → IsFirstNoAnswer lines fault → ⊥
list_stands [] said fault say there = there
list_stands (line ∷ lines) [] fault say there = say
list_stands (line ∷ lines) (each ∷ said) fault say (inl there) = there.0 each.answer say.0.word
list_stands (line ∷ lines) (each ∷ said) fault say (inr there) = list_stands lines said fault say.1 there.1

pub one_fault_behind : (lines : List NumberedLine) (a b : AnswersError) → IsFirstNoAnswer lines a → IsFirstNoAnswer lines b → a ≡ b
one_fault_behind [] a b p q = absurd p
one_fault_behind (line ∷ lines) a b (inl p) (inl q) = p.1 ∙ sym q.1
one_fault_behind (line ∷ lines) a b (inl p) (inr q) = absurd (p.0 q.0.0 q.0.1)
one_fault_behind (line ∷ lines) a b (inr p) (inl q) = absurd (q.0 p.0.0 p.0.1)
one_fault_behind (line ∷ lines) a b (inr p) (inr q) = one_fault_behind lines a b p.1 q.1

answers_or_fault : (lines : List NumberedLine) → ((said : List SaidAnswer) → SayAnswers lines said → ⊥)
    → ((fault : AnswersError) → IsFirstNoAnswer lines fault → ⊥) → ⊥
answers_or_fault [] none no_fault = none [] tt
answers_or_fault (line ∷ lines) none no_fault =
    no_fault (Syntax (Some line.number)) (inl (
      (λ answer is. answers_or_fault lines
          (λ said say. none (record { line = line.number; answer = answer } ∷ said) (record { number = refl; word = is }, say))
          (λ fault there. no_fault fault (inr ((answer, is), there)))),
      refl,
    ))

-- ---- texts

pub AreAnswersOf-only : (text : List ℕ) (a b : AnswersContents) → AreAnswersOf text a → AreAnswersOf text b → a ≡ b
AreAnswersOf-only text a b p q =
    let lines = HasLines-only text (q.first ∷ q.others) (p.first ∷ p.others) q.has p.has in
    let firsts : q.first ≡ p.first = cc in
    let others : q.others ≡ p.others = cc in
    let headings = one_heading p.first.octets a.heading b.heading p.is_heading
    (subst (λ (line : NumberedLine). IsHeading line.octets b.heading) firsts q.is_heading) in
    let numbers : a.line ≡ b.line = p.number ∙ sym (q.number ∙ ap (λ (line : NumberedLine). line.number) firsts) in
    let said = one_list p.others a.said b.said p.each (subst (λ (lines : List NumberedLine). SayAnswers lines b.said) others q.each) in
    λ i. record { heading = headings i; line = numbers i; said = said i }

pub faults_of_lines : (lines : List NumberedLine) (a b : AnswersError) → IsFaultOfLines lines a → IsFaultOfLines lines b → a ≡ b
faults_of_lines [] a b p q = p ∙ sym q
faults_of_lines (line ∷ lines) a b (inl p) (inl q) = p.1 ∙ sym q.1
faults_of_lines (line ∷ lines) a b (inl p) (inr q) = absurd (p.0 q.0.0 q.0.1)
faults_of_lines (line ∷ lines) a b (inr p) (inl q) = absurd (q.0 p.0.0 p.0.1)
faults_of_lines (line ∷ lines) a b (inr p) (inr q) = one_fault_behind lines a b p.1 q.1

pub IsFaultOf-only : (text : List ℕ) (a b : AnswersError) → IsFaultOf text a → IsFaultOf text b → a ≡ b
IsFaultOf-only text a b p q =
    faults_of_lines p.lines a b p.there
    (subst (λ (lines : List NumberedLine). IsFaultOfLines lines b) (HasLines-only text q.lines p.lines q.has p.has) q.there)

no_fault_of_lines : (first : NumberedLine) (others : List NumberedLine) (contents : AnswersContents) (fault : AnswersError)
    → IsHeading first.octets contents.heading → SayAnswers others contents.said → IsFaultOfLines (first ∷ others) fault → ⊥
no_fault_of_lines first others contents fault is say (inl there) = there.0 contents.heading is
no_fault_of_lines first others contents fault is say (inr there) = list_stands others contents.said fault say there.1

pub AreAnswersOf-no_fault : (text : List ℕ) (contents : AnswersContents) (fault : AnswersError) → AreAnswersOf text contents
    → IsFaultOf text fault → ⊥
AreAnswersOf-no_fault text contents fault are is =
    no_fault_of_lines are.first are.others contents fault are.is_heading are.each
    (subst (λ (lines : List NumberedLine). IsFaultOfLines lines fault) (HasLines-only text is.lines (are.first ∷ are.others) is.has are.has) is.there)

either_of_lines : (text : List ℕ) (lines : List NumberedLine) → HasLines text lines
    → ((contents : AnswersContents) → AreAnswersOf text contents → ⊥) → ((fault : AnswersError) → IsFaultOf text fault → ⊥) → ⊥
either_of_lines text [] has none no_fault = no_fault (Syntax None) (record { lines = []; has = has; there = refl })
either_of_lines text (line ∷ lines) has none no_fault =
    no_fault (Syntax (Some line.number)) (record {
      lines = line ∷ lines;
      has = has;
      there = inl (
        (λ heading is. answers_or_fault lines
            (λ said say. none (record { heading = heading; line = line.number; said = said })
            (record { first = line; others = lines; has = has; is_heading = is; number = refl; each = say }))
            (λ fault there. no_fault fault (record { lines = line ∷ lines; has = has; there = inr ((heading, is), there) }))),
        refl,
      );
    })

pub answers_or_first_fault : (text : List ℕ) → ((contents : AnswersContents) → AreAnswersOf text contents → ⊥)
    → ((fault : AnswersError) → IsFaultOf text fault → ⊥) → ⊥
answers_or_first_fault text none no_fault = either_of_lines text (kept_from 1 (lines_in text)) (HasLines-read text) none no_fault
