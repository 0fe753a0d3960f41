-- Files of answers, a line at a time.
use Rattle.std.proofs.Common.{◌≡◌, ◌≢◌, ℕ, List, [], ◌∷◌, ◌++◌, Some, length, refl, sym, ap, ◌∙◌, arith, subst, inl, inr, append-nil}
use Rattle.dnsv_names.specs.Lines.LineLaws.{HasLines-only}
use Rattle.dnsv_names.specs.Lines.{HasLines, NumberedLine}
use Rattle.dnsv_verifier.specs.declared.answer.Answer.{Answer}
use Rattle.dnsv_answers.specs.AnswerFile.{AreAnswersOf, HasLineBehindHeading, IsFirstNoAnswer, IsNoAnswer, SayAnswers, answer_text}
use Rattle.dnsv_answers.specs.Heading.{IsHeading}
use Rattle.dnsv_answers.specs.declared.error.AnswersError.{AnswersError}
use Rattle.dnsv_answers.specs.declared.error.AnswersError.TheVariants.{Syntax}
use Rattle.dnsv_answers.specs.declared.heading.Heading.{Heading}
use Rattle.dnsv_answers.specs.declared.said.SaidAnswer.{SaidAnswer}

-- ---- the first line

pub has_first : (text : List ℕ) (all rest : List NumberedLine) (line : NumberedLine) → all ≡ line ∷ rest → HasLines text all → HasLines text (line ∷ rest)
has_first text all rest line next has = subst (λ (lines : List NumberedLine). HasLines text lines) next has

pub no_line : (text : List ℕ) (all others : List NumberedLine) (first : NumberedLine) → all ≡ [] → HasLines text all → HasLines text (first ∷ others) → ⊥
no_line text all others first none has also =
    let same : all ≡ first ∷ others = HasLines-only text all (first ∷ others) has also in
    let clash : length (first ∷ others) ≡ 0 = ap (λ (lines : List NumberedLine). length lines) (sym same ∙ none) in
    omega (arith, clash)

-- what stands behind the first line, whichever reading finds it
pub say_behind : (text : List ℕ) (first line : NumberedLine) (others rest : List NumberedLine) (said : List SaidAnswer) → HasLines text (first ∷ others)
    → HasLines text (line ∷ rest) → SayAnswers others said → SayAnswers rest said
say_behind text first line others rest said has also say =
    let lines = HasLines-only text (first ∷ others) (line ∷ rest) has also in
    let same : others ≡ rest = cc in
    subst (λ (lines : List NumberedLine). SayAnswers lines said) same say

pub read_so : (text : List ℕ) (line : NumberedLine) (rest : List NumberedLine) (heading : Heading) (number : ℕ) (said : List SaidAnswer)
    → HasLines text (line ∷ rest) → IsHeading line.octets heading → number ≡ line.number
    → (first : NumberedLine) × (others : List NumberedLine) × HasLines text (first ∷ others) × SayAnswers others said
    → AreAnswersOf text (record { heading = heading; line = number; said = said })
read_so text line rest heading number said has is same (first, others, also, say) =
    record { first = line; others = rest; has = has; is_heading = is; number = same; each = say_behind text first line others rest said also has say }

-- memory is wanted for what stands behind a heading
pub wants_behind : (text : List ℕ) (line : NumberedLine) (rest : List NumberedLine) (heading : Heading) → HasLines text (line ∷ rest)
    → IsHeading line.octets heading → (first : NumberedLine) × (others : List NumberedLine) × HasLines text (first ∷ others) × (others ≢ [])
    → HasLineBehindHeading text
wants_behind text line rest heading has is (first, others, also, some) =
    let lines = HasLines-only text (first ∷ others) (line ∷ rest) also has in
    let same : rest ≡ others = cc in
    (line, rest, has, (heading, is), λ none. some (sym same ∙ none))

-- ---- the others

-- where the lines that are left say answers, so do all; and what these are refused for, all are
pub record GoesOn (all left : List NumberedLine) : Type 0 where
  pub say : (more : List SaidAnswer) → SayAnswers left more → (said : List SaidAnswer) × SayAnswers all said
  pub refused : (fault : AnswersError) → IsFirstNoAnswer left fault → IsFirstNoAnswer all fault

pub goes_from : (all : List NumberedLine) → GoesOn all all
goes_from all = record { say = λ more say. (more, say); refused = λ fault there. there }

pub goes_past : (all left rest : List NumberedLine) (line : NumberedLine) (answer : Answer) → left ≡ line ∷ rest → line.octets ≡ answer_text answer
    → GoesOn all left → GoesOn all rest
goes_past all left rest line answer next is so_far =
    let here = subst (λ (lines : List NumberedLine). GoesOn all lines) next so_far in
    record {
      say = λ more say. here.say (record { line = line.number; answer = answer } ∷ more) (record { number = refl; word = is }, say);
      refused = λ fault there. here.refused fault (inr ((answer, is), there));
    }

pub goes_to_end : (all left : List NumberedLine) → left ≡ [] → GoesOn all left → (said : List SaidAnswer) × SayAnswers all said
goes_to_end all left none so_far = let here = subst (λ (lines : List NumberedLine). GoesOn all lines) none so_far in here.say [] tt

pub refused_here : (all left rest : List NumberedLine) (line : NumberedLine) → left ≡ line ∷ rest → IsNoAnswer line → GoesOn all left
    → IsFirstNoAnswer all (Syntax (Some line.number))
refused_here all left rest line next none so_far =
    let here = subst (λ (lines : List NumberedLine). GoesOn all lines) next so_far in
    here.refused (Syntax (Some line.number)) (inl (none, refl))

-- what was read so far, with what the lines that are left say, is what all say; and these say something
pub record Reads (all left : List NumberedLine) (said : List SaidAnswer) : Type 0 where
  pub more : List SaidAnswer
  pub say : SayAnswers left more
  pub gives : (more : List SaidAnswer) → SayAnswers left more → SayAnswers all (said ++ more)

pub reads_from : (all : List NumberedLine) → (said : List SaidAnswer) × SayAnswers all said → Reads all all []
reads_from all (said, say) = record { more = said; say = say; gives = λ more each. each }

said_by : (line : NumberedLine) (rest : List NumberedLine) (more : List SaidAnswer) → SayAnswers (line ∷ rest) more
    → (answer : Answer) × (line.octets ≡ answer_text answer)
said_by line rest [] say = absurd say
said_by line rest (each ∷ more) say = (each.answer, say.0.word)

-- no lines say nothing
say_none : (line : NumberedLine) (rest : List NumberedLine) (said more : List SaidAnswer) → SayAnswers (line ∷ rest) more → SayAnswers [] (said ++ more) → ⊥
say_none line rest said [] say none = say
say_none line rest [] (each ∷ more) say none = none
say_none line rest (other ∷ said) (each ∷ more) say none = none

-- the next line says an answer
pub reads_one : (all left rest : List NumberedLine) (said : List SaidAnswer) (line : NumberedLine) → left ≡ line ∷ rest → Reads all left said
    → IsNoAnswer line → ⊥
reads_one all left rest said line next so_far none =
    let here = subst (λ (lines : List NumberedLine). Reads all lines said) next so_far in
    let (answer, is) = said_by line rest here.more here.say in
    none answer is

pub reads_to_end : (all left : List NumberedLine) (said : List SaidAnswer) → left ≡ [] → Reads all left said → SayAnswers all said
reads_to_end all left said none so_far =
    let here = subst (λ (lines : List NumberedLine). Reads all lines said) none so_far in
    subst (λ (each : List SaidAnswer). SayAnswers all each) (append-nil said) (here.gives [] tt)

-- where a line is left, there is one
pub reads_some : (all left rest : List NumberedLine) (said : List SaidAnswer) (line : NumberedLine) → left ≡ line ∷ rest → Reads all left said → all ≢ []
reads_some all left rest said line next so_far none =
    let here = subst (λ (lines : List NumberedLine). Reads all lines said) next so_far in
    say_none line rest said here.more here.say (subst (λ (lines : List NumberedLine). SayAnswers lines (said ++ here.more)) none (here.gives here.more here.say))
