-- What a call over files answers where one of them is at fault.
use Rattle.std.specs.Prelude.{◌≡◌, ◌<◌, ◌≤◌, ◌-◌, ◌^◌, ⊤, ℕ, List, Option, Result, Err, IfErr, IfSome, IsErrOf, length}
use Rattle.dnsv_message.specs.Streams.Counted.{failures_of}
use Rattle.dnsv_message.specs.Streams.Frames.{file_limit}
use Rattle.dnsv_files.specs.declared.inputs.Inputs.{Inputs}
use Rattle.dnsv_files.specs.declared.status.Fault.{Fault}
use Rattle.dnsv_files.specs.declared.status.Fault.TheVariants as fault
use Rattle.dnsv_files.specs.declared.status.InputFile.{InputFile}
use Rattle.dnsv_files.specs.declared.status.InputFile.TheVariants.{Anchors, Answers, Capture, Keys, Macs, Questions, Statements}
use Rattle.dnsv_files.specs.declared.status.Place.{Place}
use Rattle.dnsv_files.specs.declared.status.Refusal.{Refusal}
use Rattle.dnsv_files.specs.Files.{Files, AreTold, AreToldBeside, given_failures}

-- where the octets of a file are at fault, this is so
abbrev pub OfOctets : (Fault → Type 0) → Fault → Type 0
OfOctets Holds (fault.Refused why place) = Holds (fault.Refused why place)
OfOctets Holds (fault.TooLong file) = Holds (fault.TooLong file)
OfOctets Holds _ = ⊤

-- where a failed read is told, this is so of its file
abbrev pub OfFailedRead : (InputFile → Type 0) → Fault → Type 0
OfFailedRead Holds (fault.ReadFailed file) = Holds file
OfFailedRead Holds _ = ⊤

-- the fault is in what the file holds or in reading it, or is the want of memory
abbrev pub IsAbout : InputFile → Fault → Type 0
IsAbout file fault.OutOfMemory = ⊤
IsAbout file (fault.Refused why place) = ⊤
IsAbout file (fault.ReadFailed other) = other ≡ file
IsAbout file (fault.TooLong other) = other ≡ file
IsAbout file (fault.OpenFailed other) = ⊥
IsAbout file fault.WriteFailed = ⊥

-- The answer tells a failed read of the file, and tells none that wasn't: by the count of the calls of its reader
-- that failed, unless that began at its greatest value.
pub record TellsFailedReads {T : Type 0} (file : InputFile) (before after : ℕ) (result : Result T Fault) : Type 0 where
  pub read : result ≡ Err (fault.ReadFailed file) → before < 2 ^ 64 - 1 → before < after
  pub failed : before < after → IsErrOf result (fault.ReadFailed file)

-- The answer tells no fault that the file hasn't. `octets` are those of the file, where its reader tells them;
-- `before` and `after` count the calls of the reader that failed.
pub record TellsFileFaults {T : Type 0} (file : InputFile) (IsFault : List ℕ → Fault → Type 0)
    (octets : Option (List ℕ)) (before after : ℕ) (result : Result T Fault) : Type 0 where
  pub told : IfErr result (λ told. IfSome octets (λ octets. OfOctets (IsFault octets) told))
  pub reads : TellsFailedReads file before after result
  pub about : IfErr result (IsAbout file)

-- a text file has this fault: too many octets, or, within the limit, this is refused
abbrev pub IsTextFault : InputFile → (List ℕ → Refusal → Place → Type 0) → List ℕ → Fault → Type 0
IsTextFault file IsRefused octets (fault.Refused why place) = (length octets ≤ file_limit) × IsRefused octets why place
IsTextFault file IsRefused octets (fault.TooLong other) = (other ≡ file) × (file_limit < length octets)
IsTextFault file IsRefused octets _ = ⊥

-- the answer tells no failed read of these files that wasn't, and none that they haven't
pub record TellsReads {R T : Type 0} (before after : Inputs R) (result : Result T Fault) : Type 0 where
  pub capture : TellsFailedReads Capture (failures_of before.capture) (failures_of after.capture) result
  pub anchors : TellsFailedReads Anchors (given_failures before.anchors) (given_failures after.anchors) result
  pub statements : TellsFailedReads Statements (given_failures before.statements) (given_failures after.statements)
      result
  pub answers : TellsFailedReads Answers (given_failures before.answers) (given_failures after.answers) result
  pub keys : TellsFailedReads Keys (given_failures before.keys) (given_failures after.keys) result
  pub macs : TellsFailedReads Macs (given_failures before.macs) (given_failures after.macs) result
  -- a file that is open can't fail to open
  pub opened : IfErr result (λ told. (file : InputFile) → told ≡ fault.OpenFailed file → ⊥)

-- The answer tells the first fault of the files that questions are judged by, and no other. `remaining` are the octets of
-- a reader, where it tells them.
pub record TellsFaultsBeside {R T : Type 0} (IsFirst : Files → Fault → Type 0) (remaining : R → Option (List ℕ))
    (before after : Inputs R) (result : Result T Fault) : Type 0 where
  pub first : (files : Files) → AreToldBeside remaining before files → IfErr result (OfOctets (IsFirst files))
  pub reads : TellsReads before after result
  pub unread : IfErr result (λ told. told ≡ fault.ReadFailed Questions → ⊥)

-- The answer tells the first fault of all files, and no other.
pub record TellsFaults {R T : Type 0} (IsFirst : Files → Fault → Type 0) (remaining : R → Option (List ℕ))
    (before after : Inputs R) (result : Result T Fault) : Type 0 where
  pub first : (files : Files) → AreTold remaining before files → IfErr result (OfOctets (IsFirst files))
  pub reads : TellsReads before after result
  pub questions : TellsFailedReads Questions (given_failures before.questions) (given_failures after.questions) result
