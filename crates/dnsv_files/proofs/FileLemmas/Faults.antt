-- Answers over files, from call to call.
use Rattle.std.proofs.Common.{◌≡◌, ℕ, List, Option, Some, None, ap, subst, inr, arith}
use Rattle.std.specs.Prelude.{Result, Ok, Err, IfErr, IfSome, ⊤}
use Rattle.dnsv_message.specs.Streams.Frames.{IsCapture}
use Rattle.dnsv_message.specs.Streams.Counted.{failures_of}
use Rattle.dnsv_files.specs.Files.Capture.{AreFramesRefused, Demand, IsRefusal}
use Rattle.dnsv_files.specs.declared.opening.Opening.{Opening}
use Rattle.dnsv_files.specs.declared.inputs.Inputs.{Inputs}
use Rattle.dnsv_files.specs.declared.status.InputFile.TheVariants.{Anchors, Answers, Capture, Keys, Macs, Questions, Statements}
use Rattle.dnsv_files.specs.Files.{Files, AreToldBeside, given_failures}
use Rattle.dnsv_files.specs.declared.status.Fault.{Fault}
use Rattle.dnsv_files.specs.declared.status.Fault.TheVariants as fault
use Rattle.dnsv_files.specs.declared.status.InputFile.{InputFile}
use Rattle.dnsv_files.specs.declared.status.Place.{Place}
use Rattle.dnsv_files.specs.declared.status.Refusal.{Refusal}
use Rattle.dnsv_files.specs.Files.Faults.{IsAbout, OfOctets, TellsFailedReads, TellsFaults, TellsFaultsBeside, TellsFileFaults, TellsReads}
use Rattle.dnsv_files.specs.Told.{IsFaultOf}

no_fault : {T : Type 0} {x : T} {told : Fault} → Path (Result T Fault) (Ok x) (Err told) → ⊥
no_fault is = cc

pub same_fault : {T : Type 0} {told other : Fault} → Path (Result T Fault) (Err told) (Err other) → told ≡ other
same_fault is = cc

abbrev pub IsOther : InputFile → Fault → Type 0
IsOther file told = told ≡ fault.ReadFailed file → ⊥

-- ---- failed reads

module _ {T U : Type 0} {file : InputFile} {before after : ℕ} where
  -- a fault is told alike whatever else the answer may be
  pub reads_passed : (told : Fault) → TellsFailedReads {T = T} file before after (Err told) → TellsFailedReads {T = U} file before after (Err told)
  reads_passed told tells = record {
    read = λ is. tells.read (ap (λ (e : Fault). Err e) (same_fault is));
    failed = λ more. ap (λ (e : Fault). Err e) (same_fault (tells.failed more));
  }

  -- no read of the file failed, and none is told
  pub reads_then : (x : T) (result : Result U Fault) → TellsFailedReads file before after (Ok x) → IfErr result (IsOther file)
      → TellsFailedReads file before after result
  reads_then x (Ok y) tells other = record { read = λ is. absurd (no_fault is); failed = λ more. absurd (no_fault (tells.failed more)) }
  reads_then x (Err told) tells other = record { read = λ is. absurd (other (same_fault is)); failed = λ more. absurd (no_fault (tells.failed more)) }

-- a file that wasn't read
pub reads_untouched : {U : Type 0} {file : InputFile} (before after : ℕ) (result : Result U Fault) → after ≡ before → IfErr result (IsOther file) → TellsFailedReads file before after result
reads_untouched before after (Ok y) same other = record { read = λ is. absurd (no_fault is); failed = λ more. absurd (omega (arith, more, same)) }
reads_untouched before after (Err told) same other = record { read = λ is. absurd (other (same_fault is)); failed = λ more. absurd (omega (arith, more, same)) }

-- a fault about one file tells no failed read of another
pub about_another : {file : InputFile} (other : InputFile) (told : Fault) → IsAbout file told → (other ≡ file → ⊥) → IsOther other told
about_another {file} other told about differs = λ is. differs (subst (IsAbout file) is about)

-- ---- one file

some_unit : (o : Option (List ℕ)) → IfSome o (λ _. ⊤)
some_unit None = tt
some_unit (Some x) = tt

module _ {file : InputFile} {IsFault : List ℕ → Fault → Type 0} {octets : Option (List ℕ)} {before after : ℕ} {T U : Type 0} where
  pub TellsFileFaults-passed : (told : Fault) → TellsFileFaults {T = T} file IsFault octets before after (Err told)
      → TellsFileFaults {T = U} file IsFault octets before after (Err told)
  TellsFileFaults-passed told tells = record { told = tells.told; reads = reads_passed told tells.reads; about = tells.about }

  -- the file was read, and what it is refused for comes later, or want of memory
  later : (P : Refusal → Place → Type 0) (x : T) (told : Fault) → TellsFileFaults file IsFault octets before after (Ok x)
      → ((why : Refusal) (place : Place) → P why place → IfSome octets (λ octets. IsFault octets (fault.Refused why place))) → IsFaultOf P told
      → TellsFileFaults {T = U} file IsFault octets before after (Err told)
  later P x (fault.Refused why place) tells means holds =
      record { told = means why place holds; reads = reads_then x (Err (fault.Refused why place)) tells.reads (λ is. cc); about = tt }
  later P x fault.OutOfMemory tells means holds =
      record { told = some_unit octets; reads = reads_then x (Err fault.OutOfMemory) tells.reads (λ is. cc); about = tt }
  later P x told tells means holds = absurd holds

  -- the file was read, and the answer is that of the next call
  pub TellsFileFaults-then : (P : Refusal → Place → Type 0) (x : T) (result : Result U Fault) → TellsFileFaults file IsFault octets before after (Ok x)
      → ((why : Refusal) (place : Place) → P why place → IfSome octets (λ octets. IsFault octets (fault.Refused why place))) → IfErr result (IsFaultOf P)
      → TellsFileFaults file IsFault octets before after result
  TellsFileFaults-then P x (Ok y) tells means holds = record { told = tt; reads = reads_then x (Ok y) tells.reads tt; about = tt }
  TellsFileFaults-then P x (Err told) tells means holds = later P x told tells means holds

-- ---- the file of captured messages

-- what the frames of a file are refused for, the file is refused for
pub frames_refused : (demand : Demand) (opening : Opening) (octets : Option (List ℕ)) (frames : List (List ℕ)) → IfSome octets (λ file. IsCapture file frames)
    → (why : Refusal) (place : Place) → AreFramesRefused demand opening frames why place → IfSome octets (λ file. IsRefusal demand opening file why place)
frames_refused demand opening None frames is why place refused = tt
frames_refused demand opening (Some file) frames is why place refused = inr (inr (frames, is, refused))

-- ---- from file to file

pub OfOctets-weaker : (P Q : Fault → Type 0) (told : Fault) → ((fault : Fault) → P fault → Q fault) → OfOctets P told → OfOctets Q told
OfOctets-weaker P Q (fault.Refused why place) weaker holds = weaker (fault.Refused why place) holds
OfOctets-weaker P Q (fault.TooLong file) weaker holds = weaker (fault.TooLong file) holds
OfOctets-weaker P Q told weaker holds = tt

pub about_opened : (file : InputFile) (told : Fault) → IsAbout file told → (other : InputFile) → told ≡ fault.OpenFailed other → ⊥
about_opened file told about other is = subst (IsAbout file) is about

-- what holds of the octets that a reader tells
pub of_told : (P : List ℕ → Type 0) {octets : Option (List ℕ)} {file : List ℕ} → octets ≡ Some file → IfSome octets P → P file
of_told P is holds = subst (λ octets. IfSome octets P) is holds

if_weaker : {T : Type 0} (P Q : Fault → Type 0) (result : Result T Fault) → ((fault : Fault) → P fault → Q fault)
    → IfErr result (OfOctets P) → IfErr result (OfOctets Q)
if_weaker P Q (Ok x) weaker none = tt
if_weaker P Q (Err told) weaker holds = OfOctets-weaker P Q told weaker holds

-- what is the first fault of files is told as that of more
pub TellsFaults-weaker : {R T : Type 0} {remaining : R → Option (List ℕ)} {before after : Inputs R} (P Q : Files → Fault → Type 0) (result : Result T Fault)
    → ((files : Files) (fault : Fault) → P files fault → Q files fault)
    → TellsFaults P remaining before after result → TellsFaults Q remaining before after result
TellsFaults-weaker P Q result weaker tells = record {
  first = λ files are. if_weaker (P files) (Q files) result (weaker files) (tells.first files are);
  reads = tells.reads;
  questions = tells.questions;
}

-- a fault is told alike whatever else the answer may be
pub beside_passed : {R S T : Type 0} {P : Files → Fault → Type 0} {remaining : R → Option (List ℕ)} {before after : Inputs R} (told : Fault)
    → TellsFaultsBeside {T = S} P remaining before after (Err told) → TellsFaultsBeside {T = T} P remaining before after (Err told)
beside_passed told tells = record {
  first = tells.first;
  reads = record {
    capture = reads_passed told tells.reads.capture;
    anchors = reads_passed told tells.reads.anchors;
    statements = reads_passed told tells.reads.statements;
    answers = reads_passed told tells.reads.answers;
    keys = reads_passed told tells.reads.keys;
    macs = reads_passed told tells.reads.macs;
    opened = tells.reads.opened;
  };
  unread = tells.unread;
}

-- where no questions are read, the first fault of the files that they are judged by is that of all
pub with_questions : {R T : Type 0} {remaining : R → Option (List ℕ)} {before after : Inputs R} (P Q : Files → Fault → Type 0) (result : Result T Fault)
    → ((files : Files) (fault : Fault) → P files fault → Q files fault) → after.questions ≡ before.questions
    → TellsFaultsBeside P remaining before after result → TellsFaults Q remaining before after result
with_questions {before = before} {after = after} P Q result weaker same tells = record {
  first = λ files are. if_weaker (P files) (Q files) result (weaker files) (tells.first files are.beside);
  reads = tells.reads;
  questions = reads_untouched (given_failures before.questions) (given_failures after.questions) result (ap given_failures same) tells.unread;
}

if_other : {S T : Type 0} {file : InputFile} {m n : ℕ} (x : S) (result : Result T Fault) → TellsFailedReads {T = S} file m n (Ok x)
    → ((other : InputFile) → IfErr result (IsOther other)) → TellsFailedReads {T = T} file m n result
if_other {file = file} x result tells none = reads_then x result tells (none file)

-- no read of the files failed, and none is told
pub reads_after : {R S T : Type 0} {before after : Inputs R} (x : S) (result : Result T Fault) → TellsReads {T = S} before after (Ok x)
    → ((file : InputFile) → IfErr result (IsOther file)) → IfErr result (λ told. (file : InputFile) → told ≡ fault.OpenFailed file → ⊥)
    → TellsReads {T = T} before after result
reads_after x result tells none opened = record {
  capture = if_other x result tells.capture none;
  anchors = if_other x result tells.anchors none;
  statements = if_other x result tells.statements none;
  answers = if_other x result tells.answers none;
  keys = if_other x result tells.keys none;
  macs = if_other x result tells.macs none;
  opened = opened;
}

-- all files were taken, and what they say is refused all the same
pub refused_behind : {R S T : Type 0} {remaining : R → Option (List ℕ)} {before after : Inputs R} (IsFirst : Files → Fault → Type 0) (x : S) (told : Fault)
    (P : Refusal → Place → Type 0) → TellsFaultsBeside {T = S} IsFirst remaining before after (Ok x)
    → ((files : Files) → AreToldBeside remaining before files → (why : Refusal) (place : Place) → P why place → IsFirst files (fault.Refused why place))
    → IsFaultOf P told → TellsFaultsBeside {T = T} IsFirst remaining before after (Err told)
refused_behind IsFirst x (fault.Refused why place) P tells first is = record {
  first = λ files are. first files are why place is;
  reads = reads_after x (Err (fault.Refused why place)) tells.reads (λ file. λ same. cc) (λ file same. cc);
  unread = λ same. cc;
}
refused_behind IsFirst x fault.OutOfMemory P tells first is = record {
  first = λ files are. tt;
  reads = reads_after x (Err fault.OutOfMemory) tells.reads (λ file. λ same. cc) (λ file same. cc);
  unread = λ same. cc;
}
refused_behind IsFirst x told P tells first is = absurd is

-- readers that weren't called
pub reads_of_none : {R T : Type 0} {before after : Inputs R} (result : Result T Fault) → after.capture ≡ before.capture → after.anchors ≡ before.anchors
    → after.statements ≡ before.statements → after.answers ≡ before.answers → after.keys ≡ before.keys → after.macs ≡ before.macs
    → IfErr result (IsAbout Questions) → TellsReads {T = T} before after result
reads_of_none {before = before} {after = after} result capture anchors statements answers keys macs about = record {
  capture = reads_untouched (failures_of before.capture) (failures_of after.capture) result (ap failures_of capture) (about_others Capture result about (λ is. cc));
  anchors = reads_untouched (given_failures before.anchors) (given_failures after.anchors) result (ap given_failures anchors) (about_others Anchors result about (λ is. cc));
  statements = reads_untouched (given_failures before.statements) (given_failures after.statements) result (ap given_failures statements) (about_others Statements result about (λ is. cc));
  answers = reads_untouched (given_failures before.answers) (given_failures after.answers) result (ap given_failures answers) (about_others Answers result about (λ is. cc));
  keys = reads_untouched (given_failures before.keys) (given_failures after.keys) result (ap given_failures keys) (about_others Keys result about (λ is. cc));
  macs = reads_untouched (given_failures before.macs) (given_failures after.macs) result (ap given_failures macs) (about_others Macs result about (λ is. cc));
  opened = none_opened result about;
}
  where
    about_others : {T : Type 0} (file : InputFile) (result : Result T Fault) → IfErr result (IsAbout Questions) → (file ≡ Questions → ⊥) → IfErr result (IsOther file)
    about_others file (Ok x) about differs = tt
    about_others file (Err told) about differs = about_another file told about differs

    none_opened : {T : Type 0} (result : Result T Fault) → IfErr result (IsAbout Questions) → IfErr result (λ told. (file : InputFile) → told ≡ fault.OpenFailed file → ⊥)
    none_opened (Ok x) about = tt
    none_opened (Err told) about = about_opened Questions told about
