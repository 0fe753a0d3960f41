-- Files of questions, a line at a time.
use Rattle.std.specs.Prelude.{⊤}
use Rattle.std.proofs.Common.{◌≡◌, ◌+◌, ◌<◌, ℕ, List, [], ◌∷◌, ◌++◌, length, refl, arith, subst, length-append}
use Rattle.dnsv_names.proofs.LineFileLemmas.{SayTogether, say_more}
use Rattle.dnsv_names.specs.Lines.LineFile.{SayEach}
use Rattle.dnsv_names.specs.Lines.LineFileLaws.{IsLineFile, SaysValues-no_fault, SaysValues-only}
use Rattle.dnsv_names.specs.Lines.{HasLines, NumberedLine}
use Rattle.dnsv_questions.specs.QuestionFile.{AreFew, AreQuestionsOf, IsAskedLine}
use Rattle.dnsv_questions.proofs.QuestionFileLaws.{one_asked}
use Rattle.dnsv_questions.specs.Question.{Asked}

-- lines that were read are this many questions, and there is room for them
pub record AreSoMany (lines : List NumberedLine) (count : ℕ) : Type 0 where
  pub questions : List Asked
  pub say : SayTogether IsAskedLine AreFew lines questions
  pub count_is : length questions ≡ count

-- one line more
pub one_more : {lines : List NumberedLine} {count : ℕ} (line : NumberedLine) → AreSoMany lines count
    → ((asked : Asked) × IsAskedLine line.octets asked) × (count < 1048576) → AreSoMany (lines ++ line ∷ []) (count + 1)
one_more {lines} {count} line so_far ((asked, is), room) =
    record {
      questions = so_far.questions ++ asked ∷ [];
      say = say_more (so_far.questions ++ asked ∷ []) line so_far.say
          (asked, is, omega (arith, room, so_far.count_is, length-append so_far.questions (asked ∷ [])), refl);
      count_is = omega (arith, so_far.count_is, length-append so_far.questions (asked ∷ []));
    }

-- ---- the questions of a text without a fault

-- a line asks nothing
abbrev AsksNothing : ⊤ → NumberedLine → List Asked → Type 0
AsksNothing fault line before = (asked : Asked) → IsAskedLine line.octets asked → ⊥

-- any number of questions, where a line alone can be at fault
any_number : IsLineFile IsAskedLine (λ _. ⊤) AsksNothing
any_number = record {
  one_value = one_asked;
  one_fault = λ line before a b p q. refl;
  no_fault = λ line before asked behind is some fault none. none asked is;
}

-- each line asks something
pub asks_something : (text : List ℕ) (questions so_far : List Asked) (before : List NumberedLine) (line : NumberedLine) (after : List NumberedLine)
    → AreQuestionsOf text questions → HasLines text (before ++ line ∷ after) → SayEach IsAskedLine before so_far
    → ((asked : Asked) → IsAskedLine line.octets asked → ⊥) → ⊥
asks_something text questions so_far before line after are has each none =
    SaysValues-no_fault any_number text questions tt
    (record { lines = are.lines; has = are.has; each = are.each; may_stand = tt })
    (record { before = before; line = line; after = after; has = has; values = so_far; each = each; may_stand = tt; there = none })

-- what all lines ask are the questions of the text
pub all_asked : (text : List ℕ) (questions found : List Asked) (lines : List NumberedLine) → AreQuestionsOf text questions → HasLines text lines
    → SayEach IsAskedLine lines found → AreQuestionsOf text found
all_asked text questions found lines are has each =
    let same = SaysValues-only any_number text questions found
    (record { lines = are.lines; has = are.has; each = are.each; may_stand = tt })
    (record { lines = lines; has = has; each = each; may_stand = tt }) in
    subst (λ (asked : List Asked). AreQuestionsOf text asked) same are
