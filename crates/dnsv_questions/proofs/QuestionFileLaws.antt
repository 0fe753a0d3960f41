-- A text is one list of questions, or has one first fault.
use Rattle.std.proofs.Common.{◌≡◌, ◌<◌, ◌≤◌, ℕ, List, [], ◌∷◌, ◌++◌, length, refl, sym, ap, ◌∙◌, arith, subst, ⊎_elim, length-append}
use Rattle.std.proofs.lemmas.Bool.{cases_lt}
use Rattle.std.proofs.lemmas.Fmt.{decimal_injective}
use Rattle.dnsv_names.proofs.LineFileLemmas.{SaysOrFails, values_or_fault}
use Rattle.dnsv_names.proofs.OneReading.{one_name}
use Rattle.dnsv_names.specs.Lines.LineFileLaws.{HasFirstFault-only, IsLineFile, SaysValues-no_fault, SaysValues-only}
use Rattle.dnsv_names.specs.Lines.LineLaws.{AreFields-only}
use Rattle.dnsv_names.specs.Lines.{NumberedLine}
use Rattle.dnsv_names.specs.Text.{IsTextOf}
use Rattle.dnsv_questions.specs.QuestionFile.{AreFew, AreQuestionsOf, IsAskedLine, IsFaultOf, IsFaultOfLine}
use Rattle.dnsv_questions.specs.declared.error.QuestionsError.{QuestionsError}
use Rattle.dnsv_questions.specs.declared.error.QuestionsError.TheVariants.{OutOfMemory, Syntax, TooMany}
use Rattle.dnsv_questions.specs.Question.{Asked}

-- a line asks one thing
pub one_asked : (line : List ℕ) (a b : Asked) → IsAskedLine line a → IsAskedLine line b → a ≡ b
one_asked line a b p q =
    let fields : p.text ∷ p.digits ∷ [] ≡ q.text ∷ q.digits ∷ [] = AreFields-only line (p.text ∷ p.digits ∷ []) (q.text ∷ q.digits ∷ []) p.fields q.fields in
    let texts : p.text ≡ q.text = cc in
    let digits : p.digits ≡ q.digits = cc in
    let Spells : List ℕ → Type 0 = λ text. IsTextOf text a.name in
    let names = one_name q.text a.name b.name p.is_name q.is_name (subst Spells texts p.name) q.name in
    let numbers = decimal_injective a.rtype b.rtype (omega (arith, p.fits)) (omega (arith, q.fits)) (sym p.rtype ∙ digits ∙ q.rtype) in
    λ i. record { name = names i; rtype = numbers i }

-- no line of few questions is faulty
no_fault : (line : NumberedLine) (before : List Asked) (asked : Asked) (behind : List Asked) → IsAskedLine line.octets asked
    → AreFew (before ++ asked ∷ behind) → (fault : QuestionsError) → IsFaultOfLine fault line before → ⊥
no_fault line before asked behind says few OutOfMemory there = there
no_fault line before asked behind says few (Syntax number) there = there.1 asked says
no_fault line before asked behind says few (TooMany number) there =
    omega (arith, there.2, few, length-append before (asked ∷ behind))

-- a line has one fault
one_fault : (line : NumberedLine) (before : List Asked) (a b : QuestionsError) → IsFaultOfLine a line before
    → IsFaultOfLine b line before → a ≡ b
one_fault line before OutOfMemory b p q = absurd p
one_fault line before (Syntax m) (Syntax n) p q = ap (λ k. Syntax k) (p.0 ∙ sym q.0)
one_fault line before (Syntax m) (TooMany n) p q = absurd (p.1 q.1.0 q.1.1)
one_fault line before a OutOfMemory p q = absurd q
one_fault line before (TooMany m) (Syntax n) p q = absurd (q.1 p.1.0 p.1.1)
one_fault line before (TooMany m) (TooMany n) p q = ap (λ k. TooMany k) (p.0 ∙ sym q.0)

pub question_file : IsLineFile IsAskedLine AreFew IsFaultOfLine
question_file = record { one_value = one_asked; one_fault = one_fault; no_fault = no_fault }

-- a text is one list of questions
pub AreQuestionsOf-only : (text : List ℕ) (a b : List Asked) → AreQuestionsOf text a → AreQuestionsOf text b → a ≡ b
AreQuestionsOf-only text a b first second = SaysValues-only question_file text a b first second

-- a text of questions has no fault
pub AreQuestionsOf-no_fault : (text : List ℕ) (questions : List Asked) (fault : QuestionsError)
    → AreQuestionsOf text questions → IsFaultOf text fault → ⊥
AreQuestionsOf-no_fault text questions fault are is = SaysValues-no_fault question_file text questions fault are is

-- a text has one first fault
pub IsFaultOf-only : (text : List ℕ) (a b : QuestionsError) → IsFaultOf text a → IsFaultOf text b → a ≡ b
IsFaultOf-only text a b first second = HasFirstFault-only question_file text a b first second

-- ---- no text is neither

-- behind few questions a line is one more that has room, or is at fault
question_or_fault : SaysOrFails IsAskedLine AreFew IsFaultOfLine
question_or_fault = record {
  nothing = omega arith;
  next = λ line before few no_question at_fault. at_fault (Syntax line.number) (
    refl,
    λ asked says. ⊎_elim
        (λ (room : length before < 1048576). no_question asked says (omega (arith, room, length-append before (asked ∷ []))))
        (λ (full : 1048576 ≤ length before). at_fault (TooMany line.number) (refl, (asked, says), omega (arith, full, few)))
        (cases_lt (length before) 1048576),
  );
}

pub questions_or_fault : (text : List ℕ) → ((questions : List Asked) → AreQuestionsOf text questions → ⊥)
    → ((fault : QuestionsError) → IsFaultOf text fault → ⊥) → ⊥
questions_or_fault text no_questions no_fault = values_or_fault question_or_fault text no_questions no_fault
