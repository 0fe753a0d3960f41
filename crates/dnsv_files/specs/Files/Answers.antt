-- Files of answers by number: what they say, and what they are refused for.
use Rattle.std.specs.Prelude.{◌≡◌, ◌⊎◌, ◌≤◌, ℕ, List, Option, Some, None, length}
use Rattle.sha2.specs.Sha256.{sha256}
use Rattle.dnsv_message.specs.Streams.Frames.{file_limit}
use Rattle.dnsv_canonical.specs.Rrsets.{ReceivedRrset}
use Rattle.dnsv_answers.specs.Answered.{IsNumberAskedWithin}
use Rattle.dnsv_answers.specs.AnswerFile.{AnswersContents, AreAnswersOf, AreMiscounted, AreOf, AreOfOther, IsFaultOf}
use Rattle.dnsv_answers.specs.declared.heading.Moments.{Moments}
use Rattle.dnsv_answers.specs.declared.error.AnswersError.{AnswersError}
use Rattle.dnsv_answers.specs.declared.error.AnswersError.TheVariants as answers
use Rattle.dnsv_files.specs.declared.status.Fault.{Fault}
use Rattle.dnsv_files.specs.declared.status.Fault.TheVariants as fault
use Rattle.dnsv_files.specs.declared.status.InputFile.TheVariants.{Answers}
use Rattle.dnsv_files.specs.declared.status.Place.{Place}
use Rattle.dnsv_files.specs.declared.status.Refusal.{Refusal}
use Rattle.dnsv_files.specs.declared.status.Refusal.TheVariants as refusal
use Rattle.dnsv_files.specs.Files.Faults.{IsTextFault}
use Rattle.dnsv_files.specs.Bounds.{begin_of, end_of}

-- ---- what is said

-- the heading and the answers of a text within the limit
pub record HasAnswers (text : List ℕ) (contents : AnswersContents) : Type 0 where
  pub within : length text ≤ file_limit
  pub are : AreAnswersOf text contents

-- they are said of the capture with these octets, and of the moment or just the range
abbrev pub AreFor : List ℕ → Moments → AnswersContents → Type 0
AreFor capture moments contents = AreOf contents.heading (sha256 capture) moments

-- the text has these answers, which are said of the capture and the moments
pub record AreSaidFor (capture : List ℕ) (moments : Moments) (text : List ℕ) (contents : AnswersContents) : Type 0 where
  pub has : HasAnswers text contents
  pub are_for : AreFor capture moments contents

-- ---- what is refused

-- a place in a text file: the line of this number, where there is one
abbrev pub IsAtSomeLine : Option ℕ → Place → Type 0
IsAtSomeLine number place = (place.message ≡ None) × (place.«record» ≡ None) × (place.line ≡ number)

-- a fault of answers is told as this refusal, with the number of the line, where there is one
abbrev pub TellsAnswersError : AnswersError → Refusal → Place → Type 0
TellsAnswersError answers.OutOfMemory why place = ⊥
TellsAnswersError (answers.Syntax number) why place =
    (why ≡ refusal.AnswerLine (answers.Syntax number)) × IsAtSomeLine number place
TellsAnswersError (answers.OtherList number) why place =
    (why ≡ refusal.AnswerLine (answers.OtherList number)) × IsAtSomeLine (Some number) place
TellsAnswersError (answers.Count number) why place =
    (why ≡ refusal.AnswerLine (answers.Count number)) × IsAtSomeLine number place

-- the text is refused for its first fault
abbrev pub AreAnswersRefused : List ℕ → Refusal → Place → Type 0
AreAnswersRefused text why place = (error : AnswersError) × IsFaultOf text error × TellsAnswersError error why place

-- the answers are refused because they are said of another capture, or of other moments
abbrev pub AreForOther : List ℕ → Moments → AnswersContents → Refusal → Place → Type 0
AreForOther capture moments contents why place =
    (error : AnswersError) × AreOfOther contents (sha256 capture) moments error × TellsAnswersError error why place

-- the answers are refused because there are more or fewer than entries that are asked of the RRsets at the
-- moments
abbrev pub AreTooManyOrFew : Moments → List ReceivedRrset → AnswersContents → Refusal → Place → Type 0
AreTooManyOrFew moments rrsets contents why place =
    (error : AnswersError) × ((count : ℕ) × IsNumberAskedWithin (begin_of moments) (end_of moments) rrsets count × AreMiscounted contents count error)
    × TellsAnswersError error why place

-- the text is refused, or else its answers are because they are said of another list
abbrev pub AreRefusedBeforeCount : List ℕ → Moments → List ℕ → Refusal → Place → Type 0
AreRefusedBeforeCount capture moments text why place =
    AreAnswersRefused text why place
    ⊎ ((contents : AnswersContents) × AreAnswersOf text contents × AreForOther capture moments contents why place)

-- or else because of their number
abbrev pub AreRefusedFor : List ℕ → Moments → List ReceivedRrset → List ℕ → Refusal → Place → Type 0
AreRefusedFor capture moments rrsets text why place =
    AreRefusedBeforeCount capture moments text why place
    ⊎ ((contents : AnswersContents) × AreAnswersOf text contents × AreFor capture moments contents
    × AreTooManyOrFew moments rrsets contents why place)

-- the faults of a file of them
abbrev pub IsFaultBeforeCount : List ℕ → Moments → List ℕ → Fault → Type 0
IsFaultBeforeCount capture moments = IsTextFault Answers (AreRefusedBeforeCount capture moments)

abbrev pub IsFaultOfAnswers : List ℕ → Moments → List ReceivedRrset → List ℕ → Fault → Type 0
IsFaultOfAnswers capture moments rrsets = IsTextFault Answers (AreRefusedFor capture moments rrsets)
