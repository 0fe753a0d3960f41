-- The numbers of the faults, the exit statuses of the program, and the line that tells a fault.
use Rattle.std.specs.Prelude.{◌≡◌, ℕ, List, [], ◌++◌, Option, Some, None, Result, Ok, Err, codes}
use Rattle.std.specs.Fmt.{decimal}
use Rattle.dnsv_message.specs.declared.errors.DecodeError.{DecodeError}
use Rattle.dnsv_message.specs.declared.errors.DecodeError.TheVariants as decode
use Rattle.dnsv_canonical.specs.declared.capture.CaptureError.{CaptureError}
use Rattle.dnsv_canonical.specs.declared.capture.CaptureError.TheVariants as capture
use Rattle.dnsv_tsig.specs.declared.error.TsigError.{TsigError}
use Rattle.dnsv_tsig.specs.declared.error.TsigError.TheVariants as tsig
use Rattle.dnsv_names.specs.NameError.{code_of}
use Rattle.dnsv_message.specs.Errors.{decode_error_code}
use Rattle.dnsv_tsig.specs.Errors.{key_file_error_code, tsig_error_code}
use Rattle.dnsv_canonical.specs.CaptureError.{capture_error_code}
use Rattle.dnsv_statements.specs.StatementsError.{statements_error_code}
use Rattle.dnsv_answers.specs.AnswersError.{answers_error_code}
use Rattle.dnsv_anchors.specs.AnchorsError.{anchors_error_code}
use Rattle.dnsv_verdict.specs.VerdictError.{verdict_error_code}
use Rattle.dnsv_questions.specs.QuestionsError.{questions_error_code}
use Rattle.dnsv_files.specs.declared.status.Status.{Status}
use Rattle.dnsv_files.specs.declared.status.Status.TheVariants.{Done, Insecure, Pending, Bogus, Indeterminate, Refused}
use Rattle.dnsv_files.specs.declared.status.InputFile.{InputFile}
use Rattle.dnsv_files.specs.declared.status.InputFile.TheVariants.{Anchors, Answers, Capture, Keys, Macs, Questions, Statements}
use Rattle.dnsv_files.specs.declared.status.Refusal.{Refusal}
use Rattle.dnsv_files.specs.declared.status.Refusal.TheVariants as refusal
use Rattle.dnsv_files.specs.declared.status.Place.{Place}
use Rattle.dnsv_files.specs.declared.status.Fault.{Fault}
use Rattle.dnsv_files.specs.declared.status.Fault.TheVariants as fault

-- the exit status of a run that wrote its text
abbrev pub status_code : Status → ℕ
status_code Done = 0
status_code Insecure = 3
status_code Pending = 4
status_code Bogus = 5
status_code Indeterminate = 6
status_code Refused = 7

-- ---- faults and their numbers

-- that of the layer below, where the refusal is that layer's
abbrev pub refusal_number : Refusal → ℕ
refusal_number (refusal.Name error) = code_of error
refusal_number (refusal.Question error) = verdict_error_code error
refusal_number (refusal.KeyLine error) = key_file_error_code error
refusal_number refusal.MacSyntax = 801
refusal_number refusal.MacCount = 802
refusal_number refusal.ZeroLength = 208
refusal_number refusal.TornFrame = 209
refusal_number (refusal.Message error) = decode_error_code error
refusal_number (refusal.Tsig error) = tsig_error_code error
refusal_number (refusal.Evidence error) = capture_error_code error
refusal_number (refusal.AnchorLine error) = anchors_error_code error
refusal_number (refusal.StatementLine error) = statements_error_code error
refusal_number (refusal.AnswerLine error) = answers_error_code error
refusal_number (refusal.QuestionLine error) = questions_error_code error
refusal_number refusal.BadRange = 821

abbrev pub fault_number : Fault → ℕ
fault_number fault.OutOfMemory = 90
fault_number (fault.ReadFailed file) = 210
fault_number (fault.TooLong file) = 211
fault_number (fault.OpenFailed file) = 811
fault_number fault.WriteFailed = 812
fault_number (fault.Refused why place) = refusal_number why

-- the exit status of a fault: 7 where the input is refused, and 1 for what fails in the machine
abbrev pub fault_code : Fault → ℕ
fault_code (fault.Refused why place) = 7
fault_code _ = 1

-- the exit status of a run
abbrev pub outcome_code : Result Status Fault → ℕ
outcome_code (Ok status) = status_code status
outcome_code (Err failed) = fault_code failed

-- a message's fault is told as this refusal, with the number of the record at fault
abbrev pub TellsMessageError : DecodeError → Refusal → Option ℕ → Type 0
TellsMessageError decode.OutOfMemory why number = ⊥
TellsMessageError (decode.BadRdata k) why number = (why ≡ refusal.Message (decode.BadRdata k)) × (number ≡ Some k)
TellsMessageError error why number = (why ≡ refusal.Message error) × (number ≡ None)

-- why a capture doesn't take a message is told as this refusal, with the number of the record at fault
abbrev pub TellsCaptureError : CaptureError → Refusal → Option ℕ → Type 0
TellsCaptureError capture.OutOfMemory why number = ⊥
TellsCaptureError (capture.BadRdata k) why number = (why ≡ refusal.Evidence (capture.BadRdata k)) × (number ≡ Some k)
TellsCaptureError error why number = (why ≡ refusal.Evidence error) × (number ≡ None)

-- why a frame isn't opened is told as this refusal, with the number of the record at fault
abbrev pub TellsTsigError : TsigError → Refusal → Option ℕ → Type 0
TellsTsigError tsig.OutOfMemory why number = ⊥
TellsTsigError (tsig.Unreadable error) why number = TellsMessageError error why number
TellsTsigError error why number = (why ≡ refusal.Tsig error) × (number ≡ None)

-- ---- the line that tells a fault

-- the word of the option that names the file
abbrev pub file_word : InputFile → List ℕ
file_word Capture = codes "capture"
file_word Anchors = codes "anchors"
file_word Statements = codes "statements"
file_word Answers = codes "answers"
file_word Keys = codes "keys"
file_word Macs = codes "macs"
file_word Questions = codes "questions"

-- a word and the number behind it, or nothing where there is none
abbrev pub numbered : List ℕ → Option ℕ → List ℕ
numbered word None = []
numbered word (Some number) = codes " " ++ word ++ codes " " ++ decimal number

abbrev pub place_text : Place → List ℕ
place_text place = numbered (codes "message") place.message
    ++ numbered (codes "record") place.record
    ++ numbered (codes "line") place.line

-- a failure with its number
abbrev pub failure_text : Fault → List ℕ
failure_text failed = codes "fault " ++ decimal (fault_number failed)

abbrev pub fault_text : Fault → List ℕ
fault_text fault.OutOfMemory = failure_text fault.OutOfMemory
fault_text fault.WriteFailed = failure_text fault.WriteFailed
fault_text (fault.ReadFailed file) =
    failure_text (fault.ReadFailed file) ++ codes " " ++ file_word file
fault_text (fault.TooLong file) = failure_text (fault.TooLong file) ++ codes " " ++ file_word file
fault_text (fault.OpenFailed file) =
    failure_text (fault.OpenFailed file) ++ codes " " ++ file_word file
fault_text (fault.Refused why place) =
    codes "refused " ++ decimal (refusal_number why) ++ place_text place

-- the line with its newline
abbrev pub fault_line : Fault → List ℕ
fault_line told = fault_text told ++ codes "\n"
