-- How the faults of the layers below are told.
use Rattle.std.specs.Prelude.{◌≡◌, ◌⊎◌, ⊤, ℕ, List, Option, Some, None, Result, Err}
use Rattle.dnsv_message.specs.declared.errors.DecodeError.{DecodeError}
use Rattle.dnsv_message.specs.declared.errors.DecodeError.TheVariants as decode
use Rattle.dnsv_message.specs.declared.errors.ReadError.{ReadError}
use Rattle.dnsv_message.specs.declared.errors.ReadError.TheVariants as read
use Rattle.dnsv_files.specs.declared.status.Fault.{Fault}
use Rattle.dnsv_files.specs.declared.status.Fault.TheVariants as fault
use Rattle.dnsv_files.specs.declared.status.InputFile.{InputFile}
use Rattle.dnsv_files.specs.declared.status.InputFile.TheVariants.{Capture}
use Rattle.dnsv_files.specs.declared.status.Place.{Place}
use Rattle.dnsv_files.specs.declared.status.Refusal.{Refusal}
use Rattle.dnsv_files.specs.declared.status.Refusal.TheVariants as refusal
use Rattle.dnsv_canonical.specs.declared.capture.CaptureError.{CaptureError}
use Rattle.dnsv_canonical.specs.declared.capture.CaptureError.TheVariants as capture
use Rattle.dnsv_canonical.specs.Evidence.{Evidence}
use Rattle.dnsv_files.specs.declared.opening.Opening.{Opening}
use Rattle.dnsv_files.specs.Files.Capture.{Demand, FrameRefused}
use Rattle.dnsv_statements.specs.declared.statements.StatementsError.{StatementsError}
use Rattle.dnsv_statements.specs.declared.statements.StatementsError.TheVariants as statements
use Rattle.dnsv_answers.specs.declared.error.AnswersError.{AnswersError}
use Rattle.dnsv_answers.specs.declared.error.AnswersError.TheVariants as answers
use Rattle.dnsv_anchors.specs.declared.anchors.AnchorsError.{AnchorsError}
use Rattle.dnsv_anchors.specs.declared.anchors.AnchorsError.TheVariants as anchors
use Rattle.dnsv_files.specs.Files.Anchors.{TellsAnchorsError}
use Rattle.dnsv_files.specs.Files.Answers.{TellsAnswersError}
use Rattle.dnsv_tsig.specs.declared.error.TsigError.{TsigError}
use Rattle.dnsv_tsig.specs.declared.error.TsigError.TheVariants as tsig
use Rattle.dnsv_tsig.specs.Answer.{tsig_answer_of}
use Rattle.dnsv_tsig.specs.Key.{SharedKey}
use Rattle.dnsv_files.specs.Opening.{HoldsNoMessage, IsUnreadable}
use Rattle.dnsv_files.specs.Files.Questions.{TellsQuestionsError}
use Rattle.dnsv_files.specs.Files.Statements.{TellsStatementsError}
use Rattle.dnsv_questions.specs.declared.error.QuestionsError.{QuestionsError}
use Rattle.dnsv_questions.specs.declared.error.QuestionsError.TheVariants as questions
use Rattle.dnsv_files.specs.Status.{TellsMessageError, TellsCaptureError, TellsTsigError}
use Rattle.dnsv_files.specs.Opening.Keys.{TellsKeysError}
use Rattle.dnsv_tsig.specs.declared.error.KeyFileError.{KeyFileError}
use Rattle.dnsv_tsig.specs.declared.error.KeyFileError.TheVariants as key_file

abbrev pub nowhere : Place
nowhere = record { message = None; «record» = None; line = None }

abbrev pub IsReadFault : ReadError → Fault → Type 0
IsReadFault read.OutOfMemory told = told ≡ fault.OutOfMemory
IsReadFault read.Read told = told ≡ fault.ReadFailed Capture
IsReadFault read.TooLong told = told ≡ fault.TooLong Capture
IsReadFault read.ZeroLength told = told ≡ fault.Refused refusal.ZeroLength nowhere
IsReadFault read.TornFrame told = told ≡ fault.Refused refusal.TornFrame nowhere

-- how a text file that wasn't read is told
abbrev pub TellsTextReadError : InputFile → ReadError → Fault → Type 0
TellsTextReadError file read.OutOfMemory told = told ≡ fault.OutOfMemory
TellsTextReadError file read.Read told = told ≡ fault.ReadFailed file
TellsTextReadError file read.TooLong told = told ≡ fault.TooLong file
TellsTextReadError file _ told = ⊥

-- nothing else is told where a text file isn't read
abbrev pub IsTextReadFault : InputFile → Fault → Type 0
IsTextReadFault file fault.OutOfMemory = ⊤
IsTextReadFault file (fault.ReadFailed other) = other ≡ file
IsTextReadFault file (fault.TooLong other) = other ≡ file
IsTextReadFault file _ = ⊥

-- the fault tells the error of a file of statements
abbrev pub IsStatementsFault : StatementsError → Fault → Type 0
IsStatementsFault statements.OutOfMemory told = told ≡ fault.OutOfMemory
IsStatementsFault error (fault.Refused why place) = TellsStatementsError error why place
IsStatementsFault error _ = ⊥

-- the fault tells the error of a file of answers
abbrev pub IsAnswersFault : AnswersError → Fault → Type 0
IsAnswersFault answers.OutOfMemory told = told ≡ fault.OutOfMemory
IsAnswersFault error (fault.Refused why place) = TellsAnswersError error why place
IsAnswersFault error _ = ⊥

-- the fault tells the error of a file of questions
abbrev pub IsQuestionsFault : QuestionsError → Fault → Type 0
IsQuestionsFault questions.OutOfMemory told = told ≡ fault.OutOfMemory
IsQuestionsFault error (fault.Refused why place) = TellsQuestionsError error why place
IsQuestionsFault error _ = ⊥

-- the fault tells the error of a file of trust anchors
abbrev pub IsAnchorsFault : AnchorsError → Fault → Type 0
IsAnchorsFault anchors.OutOfMemory told = told ≡ fault.OutOfMemory
IsAnchorsFault error (fault.Refused why place) = TellsAnchorsError error why place
IsAnchorsFault error _ = ⊥

-- the fault tells the error of a file of keys
abbrev pub IsKeysFault : KeyFileError → Fault → Type 0
IsKeysFault key_file.OutOfMemory told = told ≡ fault.OutOfMemory
IsKeysFault error (fault.Refused why place) = TellsKeysError error why place
IsKeysFault error _ = ⊥

-- the fault is a refusal of which this holds, or the want of memory
abbrev pub IsFaultOf : (Refusal → Place → Type 0) → Fault → Type 0
IsFaultOf Holds (fault.Refused why place) = Holds why place
IsFaultOf Holds fault.OutOfMemory = ⊤
IsFaultOf Holds (fault.ReadFailed file) = ⊥
IsFaultOf Holds (fault.TooLong file) = ⊥
IsFaultOf Holds (fault.OpenFailed file) = ⊥
IsFaultOf Holds fault.WriteFailed = ⊥

-- the fault is a refusal of which this holds
abbrev pub IsRefusalOf : (Refusal → Place → Type 0) → Fault → Type 0
IsRefusalOf Holds (fault.Refused why place) = Holds why place
IsRefusalOf Holds fault.OutOfMemory = ⊥
IsRefusalOf Holds (fault.ReadFailed file) = ⊥
IsRefusalOf Holds (fault.TooLong file) = ⊥
IsRefusalOf Holds (fault.OpenFailed file) = ⊥
IsRefusalOf Holds fault.WriteFailed = ⊥

-- what refuses a text is told, unless it may wait for memory, and memory was refused
abbrev pub TellsRefusals : {T : Type 0} → (Refusal → Place → Type 0) → Type 0 → Result T Fault → Type 0
TellsRefusals IsRefused Waits result = (why : Refusal) (place : Place) → IsRefused why place
    → (result ≡ Err (fault.Refused why place)) ⊎ ((result ≡ Err fault.OutOfMemory) × Waits)

-- besides the evidence that is held, the frame with this number is refused, at this place
abbrev pub IsRefusedAt : Demand → Opening → Evidence → List ℕ → ℕ → Refusal → Place → Type 0
IsRefusedAt demand opening held frame number why place =
    FrameRefused demand opening held number frame why place.«record» × (place.message ≡ Some number)
    × (place.line ≡ None)

-- the octets of the message with this number are none, and are refused at this place
abbrev pub IsUnreadableAt : List ℕ → ℕ → Refusal → Place → Type 0
IsUnreadableAt octets number why place =
    IsUnreadable octets why place.«record» × (place.message ≡ Some number) × (place.line ≡ None)

-- the frame with this number isn't opened, and is refused at this place
abbrev pub IsUnopenedAt : List SharedKey → ℕ → Option (List ℕ) → List ℕ → ℕ → Refusal → Place → Type 0
IsUnopenedAt keys moment request frame number why place =
    ((error : TsigError) × tsig_answer_of frame keys moment request (Err error)
    × TellsTsigError error why place.«record») × (place.message ≡ Some number) × (place.line ≡ None)

-- the frame with this number holds no message, and is refused at this place
abbrev pub IsNoMessageAt : Opening → List ℕ → ℕ → Refusal → Place → Type 0
IsNoMessageAt opening frame number why place =
    HoldsNoMessage opening number frame why place.«record» × (place.message ≡ Some number) × (place.line ≡ None)

-- the fault tells the error of the message with this number
abbrev pub IsDecodeFault : DecodeError → ℕ → Fault → Type 0
IsDecodeFault decode.OutOfMemory number told = told ≡ fault.OutOfMemory
IsDecodeFault error number (fault.Refused why place) =
    TellsMessageError error why place.«record» × (place.message ≡ Some number) × (place.line ≡ None)
IsDecodeFault error number _ = ⊥

-- the fault tells why the frame with this number isn't opened
abbrev pub IsTsigFault : TsigError → ℕ → Fault → Type 0
IsTsigFault tsig.OutOfMemory number told = told ≡ fault.OutOfMemory
IsTsigFault (tsig.Unreadable error) number told = IsDecodeFault error number told
IsTsigFault error number (fault.Refused why place) =
    TellsTsigError error why place.«record» × (place.message ≡ Some number) × (place.line ≡ None)
IsTsigFault error number _ = ⊥

-- the fault tells why a capture doesn't take the message with this number
abbrev pub IsCaptureFault : CaptureError → ℕ → Fault → Type 0
IsCaptureFault capture.OutOfMemory number told = told ≡ fault.OutOfMemory
IsCaptureFault error number (fault.Refused why place) =
    TellsCaptureError error why place.«record» × (place.message ≡ Some number) × (place.line ≡ None)
IsCaptureFault error number _ = ⊥

-- a file that doesn't open is told
abbrev pub IsOpenFault : Fault → Type 0
IsOpenFault (fault.OpenFailed file) = ⊤
IsOpenFault _ = ⊥

-- the file that doesn't open is told
abbrev pub IsUnopened : Option InputFile → Fault → Type 0
IsUnopened unopened (fault.OpenFailed file) = unopened ≡ Some file
IsUnopened unopened _ = ⊥
