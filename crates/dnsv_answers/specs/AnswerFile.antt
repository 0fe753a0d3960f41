-- Files of answers: what a text says, and what it is refused for.
use Rattle.std.specs.Prelude.{◌≡◌, ◌≢◌, ◌⊎◌, ◌<◌, ℕ, List, [], ◌∷◌, Some, None, codes, length, map, slice_get}
use Rattle.dnsv_names.specs.Lines.{HasLines, NumberedLine}
use Rattle.dnsv_verifier.specs.declared.answer.Answer.{Answer}
use Rattle.dnsv_verifier.specs.declared.answer.Answer.TheVariants.{Invalid, Unknown, Valid}
use Rattle.dnsv_answers.specs.Heading.{IsHeading}
use Rattle.dnsv_answers.specs.declared.error.AnswersError.{AnswersError}
use Rattle.dnsv_answers.specs.declared.error.AnswersError.TheVariants.{Count, OtherList, Syntax}
use Rattle.dnsv_answers.specs.declared.heading.Heading.{Heading}
use Rattle.dnsv_answers.specs.declared.heading.Moments.{Moments}
use Rattle.dnsv_answers.specs.declared.said.SaidAnswer.{SaidAnswer}

-- ---- what a text says

-- the word of an answer, which is all of a line
abbrev pub answer_text : Answer → List ℕ
answer_text Valid = codes "good"
answer_text Invalid = codes "bad"
answer_text Unknown = codes "-"

-- the heading with the number of its line, and the answers with those of theirs
pub record AnswersContents : Type 0 where
  pub heading : Heading
  pub line : ℕ
  pub said : List SaidAnswer

-- the answers alone
abbrev pub answers_in : AnswersContents → List Answer
answers_in contents = map (λ each. each.answer) contents.said

-- a line says the answer
pub record IsAnswerLine (line : NumberedLine) (said : SaidAnswer) : Type 0 where
  pub number : said.line ≡ line.number
  pub word : line.octets ≡ answer_text said.answer

-- each line says an answer
abbrev pub SayAnswers : List NumberedLine → List SaidAnswer → Type 0
SayAnswers [] [] = Unit {0}
SayAnswers [] (said ∷ others) = ⊥
SayAnswers (line ∷ lines) [] = ⊥
SayAnswers (line ∷ lines) (said ∷ others) = IsAnswerLine line said × SayAnswers lines others

-- the lines of a text file are a heading and answers
pub record AreAnswersOf (text : List ℕ) (contents : AnswersContents) : Type 0 where
  pub first : NumberedLine
  pub others : List NumberedLine
  pub has : HasLines text (first ∷ others)
  pub is_heading : IsHeading first.octets contents.heading
  pub number : contents.line ≡ first.number
  pub each : SayAnswers others contents.said

-- ---- what it is refused for

-- the line is no heading
abbrev pub IsNoHeading : NumberedLine → Type 0
IsNoHeading line = (heading : Heading) → IsHeading line.octets heading → ⊥

-- the line is no answer
abbrev pub IsNoAnswer : NumberedLine → Type 0
IsNoAnswer line = (answer : Answer) → line.octets ≡ answer_text answer → ⊥

-- the first of the lines that is no answer has this fault
abbrev pub IsFirstNoAnswer : List NumberedLine → AnswersError → Type 0
IsFirstNoAnswer [] fault = ⊥
IsFirstNoAnswer (line ∷ lines) fault =
    (IsNoAnswer line × (fault ≡ Syntax (Some line.number)))
    ⊎ (((answer : Answer) × (line.octets ≡ answer_text answer)) × IsFirstNoAnswer lines fault)

-- the lines have this fault: there is none, the first is no heading, or another is no answer
abbrev pub IsFaultOfLines : List NumberedLine → AnswersError → Type 0
IsFaultOfLines [] fault = fault ≡ Syntax None
IsFaultOfLines (line ∷ lines) fault =
    (IsNoHeading line × (fault ≡ Syntax (Some line.number)))
    ⊎ (((heading : Heading) × IsHeading line.octets heading) × IsFirstNoAnswer lines fault)

-- the first fault of a text file
pub record IsFaultOf (text : List ℕ) (fault : AnswersError) : Type 0 where
  pub lines : List NumberedLine
  pub has : HasLines text lines
  pub there : IsFaultOfLines lines fault

-- a text has a heading and a line behind it, so that memory may be needed
abbrev pub HasLineBehindHeading : List ℕ → Type 0
HasLineBehindHeading text = (first : NumberedLine) × (others : List NumberedLine) × HasLines text (first ∷ others)
    × ((heading : Heading) × IsHeading first.octets heading) × (others ≢ [])

-- ---- whether they are the answers to a list

-- they are said of this capture, by the SHA-256 of its octets, and of this moment or just this range
pub record AreOf (heading : Heading) (digest : List ℕ) (moments : Moments) : Type 0 where
  pub capture : heading.digest ≡ digest
  pub at : heading.moments ≡ moments

-- they are said of another list
pub record AreOfOther (contents : AnswersContents) (digest : List ℕ) (moments : Moments) (fault : AnswersError) : Type 0 where
  pub other : ¬ AreOf contents.heading digest moments
  pub is : fault ≡ OtherList contents.line

-- there are so many answers
abbrev pub AreSoMany : AnswersContents → ℕ → Type 0
AreSoMany contents count = length contents.said ≡ count

-- there are fewer, or more: then the first of these is told by its line
abbrev pub AreMiscounted : AnswersContents → ℕ → AnswersError → Type 0
AreMiscounted contents count fault =
    ((length contents.said < count) × (fault ≡ Count None))
    ⊎ ((said : SaidAnswer) × (slice_get contents.said count ≡ Some said) × (fault ≡ Count (Some said.line)))
