-- Files of questions: what they ask, and what they are refused for.
use Rattle.std.specs.Prelude.{◌≡◌, ◌≤◌, ℕ, List, length}
use Rattle.dnsv_message.specs.Streams.Frames.{file_limit}
use Rattle.dnsv_questions.specs.QuestionFile.{AreQuestionsOf, IsFaultOf}
use Rattle.dnsv_questions.specs.declared.error.QuestionsError.{QuestionsError}
use Rattle.dnsv_questions.specs.Question.{Asked}
use Rattle.dnsv_questions.specs.declared.error.QuestionsError.TheVariants as questions
use Rattle.dnsv_files.specs.declared.status.Fault.{Fault}
use Rattle.dnsv_files.specs.declared.status.InputFile.TheVariants.{Questions}
use Rattle.dnsv_files.specs.declared.status.Place.{Place}
use Rattle.dnsv_files.specs.declared.status.Refusal.{Refusal}
use Rattle.dnsv_files.specs.declared.status.Refusal.TheVariants as refusal
use Rattle.dnsv_files.specs.Files.Faults.{IsTextFault}
use Rattle.dnsv_files.specs.Files.Statements.{IsAtLine}

-- what a text within the limit asks, in its order
pub record HasQuestions (text : List ℕ) (asked : List Asked) : Type 0 where
  pub within : length text ≤ file_limit
  pub are : AreQuestionsOf text asked

-- a fault of questions is told as this refusal, with the number of the line
abbrev pub TellsQuestionsError : QuestionsError → Refusal → Place → Type 0
TellsQuestionsError questions.OutOfMemory why place = ⊥
TellsQuestionsError (questions.Syntax number) why place =
    (why ≡ refusal.QuestionLine (questions.Syntax number)) × IsAtLine number place
TellsQuestionsError (questions.TooMany number) why place =
    (why ≡ refusal.QuestionLine (questions.TooMany number)) × IsAtLine number place

-- the text is refused for its first fault
abbrev pub AreQuestionsRefused : List ℕ → Refusal → Place → Type 0
AreQuestionsRefused text why place =
    (error : QuestionsError) × IsFaultOf text error × TellsQuestionsError error why place

abbrev pub IsFaultOfQuestions : List ℕ → Fault → Type 0
IsFaultOfQuestions = IsTextFault Questions AreQuestionsRefused
