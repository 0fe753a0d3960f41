-- How a call ends: what it writes and tells, and with which status.
use Rattle.std.specs.Prelude.{◌≡◌, ◌⊎◌, ◌≤◌, ◌<◌, ◌++◌, ℕ, List, length, drop, unwrap_or}
use Rattle.dnsv_files.specs.Files.{Files}
use Rattle.dnsv_program.specs.Run.{AsksRefused, IsFirstFault, IsTextAskedFor}
use Rattle.dnsv_files.specs.Status.{fault_code, fault_number, status_code}
use Rattle.dnsv_commands.specs.declared.request.Request.{Request}
use Rattle.dnsv_files.specs.declared.status.Fault.{Fault}
use Rattle.dnsv_files.specs.declared.status.Fault.TheVariants as fault
use Rattle.dnsv_files.specs.declared.status.InputFile.{InputFile}
use Rattle.dnsv_files.specs.declared.status.InputFile.TheVariants.{Anchors, Answers, Capture, Keys, Macs, Questions, Statements}
use Rattle.dnsv_files.specs.declared.status.Status.{Status}
use Rattle.dnssec_check_c.specs.declared.outcome.Outcome.{Outcome}

-- ---- what is told

-- no text and no fault
abbrev pub nothing_told : Outcome
nothing_told = record { length = 0; message = 0; «record» = 0; line = 0; number = 0; file = 0 }

-- a text of so many octets
abbrev pub told_of_text : ℕ → Outcome
told_of_text count = record { length = count; message = 0; «record» = 0; line = 0; number = 0; file = 0 }

abbrev pub file_number : InputFile → ℕ
file_number Capture = 1
file_number Anchors = 2
file_number Statements = 3
file_number Answers = 3
file_number Keys = 4
file_number Macs = 5
file_number Questions = 6

-- a failure of this file
abbrev pub told_of_file : InputFile → ℕ → Outcome
told_of_file file number =
    record { length = 0; message = 0; «record» = 0; line = 0; number = number; file = file_number file }

-- a fault by its number, with its place as far as it has one: the numbers of its message, record and line, or 0
abbrev pub told_of_fault : Fault → Outcome
told_of_fault fault.OutOfMemory = record { length = 0; message = 0; «record» = 0; line = 0; number = 90; file = 0 }
told_of_fault fault.WriteFailed = record { length = 0; message = 0; «record» = 0; line = 0; number = 812; file = 0 }
told_of_fault (fault.ReadFailed file) = told_of_file file (fault_number (fault.ReadFailed file))
told_of_fault (fault.TooLong file) = told_of_file file (fault_number (fault.TooLong file))
told_of_fault (fault.OpenFailed file) = told_of_file file (fault_number (fault.OpenFailed file))
told_of_fault (fault.Refused why place) = record {
  length = 0;
  message = unwrap_or place.message 0;
  «record» = unwrap_or place.«record» 0;
  line = unwrap_or place.line 0;
  number = fault_number (fault.Refused why place);
  file = 0;
}

-- the fault of a run from memory into memory, where a failed write is want of it, and no read fails
abbrev pub in_memory : Fault → Fault
in_memory fault.WriteFailed = fault.OutOfMemory
in_memory fault.OutOfMemory = fault.OutOfMemory
in_memory (fault.ReadFailed file) = fault.OutOfMemory
in_memory (fault.TooLong file) = fault.TooLong file
in_memory (fault.OpenFailed file) = fault.OpenFailed file
in_memory (fault.Refused why place) = fault.Refused why place

-- ---- ends

-- The text's length is told. The text stands at the buffer's beginning, and the status is its end's; or the buffer is too
-- small, and is left as it was, with status 10.
abbrev pub GivesText : Status → List ℕ → List ℕ → List ℕ → Outcome → ℕ → Type 0
GivesText end text old new told status = (told ≡ told_of_text (length text))
    × (((length text ≤ length old) × (new ≡ text ++ drop (length text) old) × (status ≡ status_code end))
    ⊎ ((length old < length text) × (new ≡ old) × (status ≡ 10)))

-- the fault is told, and nothing written
abbrev pub TellsFault : Fault → List ℕ → List ℕ → Outcome → ℕ → Type 0
TellsFault failed old new told status = (told ≡ told_of_fault failed) × (new ≡ old) × (status ≡ fault_code failed)

-- the fault is the first of the octets: they are too many, or refused
abbrev pub IsFaultOf : Request → Files → Fault → Type 0
IsFaultOf request files fault.OutOfMemory = ⊥
IsFaultOf request files fault.WriteFailed = ⊥
IsFaultOf request files (fault.ReadFailed file) = ⊥
IsFaultOf request files (fault.TooLong file) = IsFirstFault request files (fault.TooLong file)
IsFaultOf request files (fault.OpenFailed file) = ⊥
IsFaultOf request files (fault.Refused why place) = IsFirstFault request files (fault.Refused why place)

-- over these octets the request has this text, or this is their first fault, or memory is wanting
abbrev pub Ends : Request → Files → List ℕ → List ℕ → Outcome → ℕ → Type 0
Ends request files old new told status =
    ((end : Status) × (text : List ℕ) × IsTextAskedFor request files end text × GivesText end text old new told status)
    ⊎ ((failed : Fault) × IsFaultOf request files failed × TellsFault failed old new told status)
    ⊎ TellsFault fault.OutOfMemory old new told status

-- a question that is refused is told, whatever the octets are
abbrev pub TellsQuestion : Request → Outcome → Type 0
TellsQuestion request told = (failed : Fault) → AsksRefused request failed → told ≡ told_of_fault failed

-- nothing is asked, and nothing is written or told
abbrev pub IsMisused : (Request → Type 0) → List ℕ → List ℕ → Outcome → ℕ → Type 0
IsMisused Asks old new told status =
    ((request : Request) → Asks request → ⊥) × (told ≡ nothing_told) × (new ≡ old) × (status ≡ 2)

-- it ends as a request does that asks so
abbrev pub EndsAsAsked : (Request → Type 0) → Files → List ℕ → List ℕ → Outcome → ℕ → Type 0
EndsAsAsked Asks files old new told status =
    (request : Request) × Asks request × TellsQuestion request told × Ends request files old new told status

-- how a call ends that asks so over these octets
abbrev pub CallEnds : (Request → Type 0) → Files → List ℕ → List ℕ → Outcome → ℕ → Type 0
CallEnds Asks files old new told status = IsMisused Asks old new told status ⊎ EndsAsAsked Asks files old new told status

-- The same of a call that copies a name. Where this is so, which is where something is asked, memory may be wanting for the copy.
abbrev pub NamedCallEnds : Type 0 → (Request → Type 0) → Files → List ℕ → List ℕ → Outcome → ℕ → Type 0
NamedCallEnds IsNamed Asks files old new told status =
    IsMisused Asks old new told status
    ⊎ EndsAsAsked Asks files old new told status
    ⊎ (IsNamed × TellsFault fault.OutOfMemory old new told status)
