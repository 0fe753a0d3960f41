-- A text of questions is one list of them, or has one fault.
use Rattle.std.proofs.Common.{◌≡◌, ℕ, List, Result, Err, inl, refl, subst}
use Rattle.dnsv_questions.specs.QuestionFile.{BeginsWithQuestion, IsFaultOf}
use Rattle.dnsv_questions.proofs.QuestionFileLaws.{AreQuestionsOf-no_fault, AreQuestionsOf-only, IsFaultOf-only}
use Rattle.dnsv_questions.specs.declared.error.QuestionsError.{QuestionsError}
use Rattle.dnsv_questions.specs.Question.{Asked}
use Rattle.dnsv_questions.specs.declared.error.QuestionsError.TheVariants as questions
use Rattle.dnsv_files.specs.declared.status.Fault.{Fault}
use Rattle.dnsv_files.specs.declared.status.Fault.TheVariants as fault
use Rattle.dnsv_files.specs.declared.status.InputFile.TheVariants.{Questions}
use Rattle.dnsv_files.specs.declared.status.Place.{Place}
use Rattle.dnsv_files.specs.declared.status.Refusal.{Refusal}
use Rattle.dnsv_files.specs.declared.status.Refusal.TheVariants as refusal
use Rattle.dnsv_files.specs.Files.Questions.{AreQuestionsRefused, HasQuestions, IsFaultOfQuestions, TellsQuestionsError}
use Rattle.dnsv_files.specs.Told.{IsQuestionsFault, TellsRefusals}
use Rattle.dnsv_files.proofs.FileLemmas.Text.{every_told, no_text_fault, one_at_line, one_text_fault, told_by_one}

-- a text asks one list of questions
pub one_list_of_questions : (text : List ℕ) (a b : List Asked) → HasQuestions text a → HasQuestions text b → a ≡ b
one_list_of_questions text a b x y = AreQuestionsOf-only text a b x.are y.are

one_telling : (error : QuestionsError) (a b : Refusal) (p q : Place) → TellsQuestionsError error a p → TellsQuestionsError error b q → fault.Refused a p ≡ fault.Refused b q
one_telling questions.OutOfMemory a b p q x y = absurd x
one_telling (questions.Syntax number) a b p q x y = one_at_line number (refusal.QuestionLine (questions.Syntax number)) a b p q x.0 x.1 y.0 y.1
one_telling (questions.TooMany number) a b p q x y = one_at_line number (refusal.QuestionLine (questions.TooMany number)) a b p q x.0 x.1 y.0 y.1

-- a refusal that tells an error is the one that it is told as
told_as : (error : QuestionsError) (found : Fault) → IsQuestionsFault error found → (why : Refusal) (place : Place) → TellsQuestionsError error why place → found ≡ fault.Refused why place
told_as questions.OutOfMemory found is why place tells = absurd tells
told_as (questions.Syntax line) (fault.Refused a p) is why place tells = one_telling (questions.Syntax line) a why p place is tells
told_as (questions.TooMany line) (fault.Refused a p) is why place tells = one_telling (questions.TooMany line) a why p place is tells
told_as error found is why place tells = absurd is

-- what refuses the text is told
pub every_questions_fault : {T U : Type 0} (text : List ℕ) (error : QuestionsError) (found : Fault) → IsQuestionsFault error found
    → ((first : QuestionsError) → IsFaultOf text first → Path (Result U QuestionsError) (Err error) (Err first))
    → TellsRefusals {T = T} (λ why place. (first : QuestionsError) × IsFaultOf text first × TellsQuestionsError first why place) ⊥ (Err found)
every_questions_fault text error found is every =
    every_told (IsFaultOf text) TellsQuestionsError ⊥ questions.OutOfMemory error found (told_as error found is)
    (λ same. subst (λ (e : QuestionsError). IsQuestionsFault e found) same is) (λ first bad. inl (every first bad))

-- a text of questions has no fault
pub no_questions_fault : (text : List ℕ) (asked : List Asked) (told : Fault) → HasQuestions text asked → IsFaultOfQuestions text told → ⊥
no_questions_fault text asked told has =
    no_text_fault Questions AreQuestionsRefused text has.within
    (λ why place bad. AreQuestionsOf-no_fault text asked bad.0 has.are bad.1) told

-- a text has one fault
pub one_questions_fault : (text : List ℕ) (a b : Fault) → IsFaultOfQuestions text a → IsFaultOfQuestions text b → a ≡ b
one_questions_fault text =
    one_text_fault Questions AreQuestionsRefused text
    (told_by_one (IsFaultOf text) TellsQuestionsError (IsFaultOf-only text) one_telling)

-- memory is wanted only for a text that begins with something
pub wanted_for_questions : {T : Type 0} (text : List ℕ) (error : QuestionsError) (found : Fault) → IsQuestionsFault error found → (error ≡ questions.OutOfMemory → BeginsWithQuestion text)
    → Path (Result T Fault) (Err found) (Err fault.OutOfMemory) → BeginsWithQuestion text
wanted_for_questions text questions.OutOfMemory found tells begins is = begins refl
wanted_for_questions text error found tells begins is = let same : found ≡ fault.OutOfMemory = cc in absurd (subst (IsQuestionsFault error) same tells)
