-- The line on the errors, by how the program ends.
use Rattle.std.proofs.Common.{◌≡◌, ◌<◌, ◌-◌, ◌^◌, ◌⊎◌, ◌↔◌, ℕ, Bool, List, Option, Some, None, ap, refl, sym, ◌∙◌, inl, inr, arith}
use Rattle.std.specs.Prelude.{Result, Ok, Err, IfErr, IfSome, OnOk}
use Rattle.dnsv_message.specs.Streams.Counted.{failures_of}
use Rattle.dnsv_message.specs.declared.streams.counted.Counted.{Counted}
use Rattle.dnsv_commands.specs.declared.command_line.CommandLineError.{CommandLineError}
use Rattle.dnsv_commands.specs.declared.request.Request.{Request}
use Rattle.dnsv_files.specs.declared.status.Fault.{Fault}
use Rattle.dnsv_files.specs.declared.status.Fault.TheVariants as fault
use Rattle.dnsv_files.specs.declared.status.InputFile.{InputFile}
use Rattle.dnsv_files.specs.declared.status.Status.{Status}
use Rattle.dnsv_files.specs.declared.status.Status.TheVariants.{Refused}
use Rattle.dnsv_files.specs.Files.Faults.{OfFailedRead, OfOctets}
use Rattle.dnsv_files.specs.Files.{Files}
use Rattle.dnsv_commands.specs.CommandLine.{IsAccepted, IsRefused, command_line_code}
use Rattle.dnsv_work.specs.Opened.{AreFilesAt, first_unopened, paths_of}
use Rattle.dnsv_program.specs.Program.{FailedRequest, FailedWords, IsEnd, TellsQuestion}
use Rattle.dnsv_work.specs.Telling.{LeavesOutput}
use Rattle.dnsv_program.specs.Run.{AsksRefused, IsFirstFault, IsReached}
use Rattle.dnsv_files.specs.Status.{fault_code, outcome_code}
use Rattle.dnsv_files.specs.Told.{IsOpenFault}
use Rattle.dnsv_program.proofs.ProgramLemmas.{no_1, no_end, refused_alone}
use Rattle.dnsv_program.proofs.ProgramLemmas.Words.{EndsSo, at_most_2, no_7_of_words}

-- ---- a question that is refused

-- the run tells it
pub told_by_run : (request : Request) (outcome : Result Status Fault) → ((refused : Fault) → AsksRefused request refused → outcome ≡ Err refused)
    → IfErr outcome (TellsQuestion request)
told_by_run request (Ok status) tells = tt
told_by_run request (Err told) tells = λ refused asks.
    let out : Path (Result Status Fault) (Err told) (Err refused) = tells refused asks in
    let same : told ≡ refused = cc in inl same

-- or a file didn't open
pub not_opened : (request : Request) (told : Fault) → IsOpenFault told → TellsQuestion request told
not_opened request (fault.OpenFailed file) is = λ refused asks. inr (file, refl)
not_opened request told is = absurd is

-- ---- where the words ask for something

leaves : {W Grew : Type 0} (old new : Counted W) (told : Fault) → ((told ≡ fault.WriteFailed → ⊥) → (told ≡ fault.OutOfMemory → ⊥) → new ≡ old)
    → (told ≡ fault.WriteFailed → failures_of old < 2 ^ 64 - 1 → failures_of old < failures_of new) → (told ≡ fault.OutOfMemory → (new ≡ old) ⊎ Grew)
    → LeavesOutput old new Grew told
leaves old new fault.OutOfMemory untouched failed grew = grew refl
leaves old new fault.WriteFailed untouched failed grew = failed refl
leaves old new told untouched failed grew = untouched (λ is. cc) (λ is. cc)

module _ (octets_at : List ℕ → Option (List ℕ)) (opens_at : List ℕ → Option Bool) (request : Request) where
  -- what the answer says of files, by their octets and by which of them open
  abbrev IsFirst : {T : Type 0} → Result T Fault → Type 0
  IsFirst outcome = (files : Files) → AreFilesAt octets_at request files → IfErr outcome (OfOctets (IsFirstFault request files))

  abbrev IsBehind : {T : Type 0} → Result T Fault → Type 0
  IsBehind outcome = (files : Files) → AreFilesAt octets_at request files → IfErr outcome (OfFailedRead (IsReached request files))

  abbrev TellsUnopened : {T : Type 0} → Result T Fault → Type 0
  TellsUnopened outcome = (opens : List ℕ → Bool) → ((path : List ℕ) → opens_at path ≡ Some (opens path)) → (file : InputFile)
      → (outcome ≡ Err (fault.OpenFailed file)) ↔ (first_unopened opens (paths_of request) ≡ Some file)

  failed_request : (given : Option (List (List ℕ))) (told : Fault) → IfSome given (λ words. IsAccepted words request)
      → IsFirst {T = Status} (Err told) → IsBehind {T = Status} (Err told) → TellsQuestion request told → TellsUnopened {T = Status} (Err told)
      → IfSome given (λ words. FailedRequest words octets_at opens_at told ⊎ FailedWords words told)
  failed_request None told accepted first behind question unopened = tt
  failed_request (Some words) told accepted first behind question unopened = inl (record {
    request = request;
    accepted = accepted;
    first = first;
    reached = behind;
    question = question;
    unopened = λ opens tells file. let same = unopened opens tells file in (
      λ is. same.0 (ap (λ (f : Fault). Err f) is),
      λ is. let told_so : Path (Result Status Fault) (Err told) (Err (fault.OpenFailed file)) = same.1 is in cc,
    );
  })

  pub request_told : {W : Type 0} {IsLine : Fault → Type 0} {Quiet Grew All : Type 0} (given : Option (List (List ℕ))) (old new : Counted W) (outcome : Result Status Fault) (code : ℕ)
      → outcome_code outcome ≡ code → IfSome given (λ words. IsAccepted words request) → IsFirst outcome → IsBehind outcome
      → IfErr outcome (TellsQuestion request) → TellsUnopened outcome
      → IfErr outcome (λ told. (told ≡ fault.WriteFailed → ⊥) → (told ≡ fault.OutOfMemory → ⊥) → new ≡ old)
      → (outcome ≡ Err fault.WriteFailed → failures_of old < 2 ^ 64 - 1 → failures_of old < failures_of new)
      → (outcome ≡ Err fault.OutOfMemory → (new ≡ old) ⊎ Grew)
      → IfErr outcome IsLine → OnOk outcome Quiet → (outcome ≡ Ok Refused → All) → (code ≡ 1) ⊎ (code ≡ 7)
      → ((told : Fault) × (fault_code told ≡ code) × IsLine told × LeavesOutput old new Grew told
      × IfSome given (λ words. FailedRequest words octets_at opens_at told ⊎ FailedWords words told))
      ⊎ ((code ≡ 7) × Quiet × All)
  request_told given old new (Ok status) code is accepted first behind question unopened untouched failed grew line quiet all (inl is_1) = absurd (no_1 status (is ∙ is_1))
  request_told given old new (Ok status) code is accepted first behind question unopened untouched failed grew line quiet all (inr is_7) =
      inr (is_7, quiet, all (ap (λ (each : Status). Ok each) (refused_alone status (is ∙ is_7))))
  request_told given old new (Err told) code is accepted first behind question unopened untouched failed grew line quiet all ends = inl (
    told,
    is,
    line,
    leaves old new told untouched (λ same. failed (ap (λ (f : Fault). Err f) same)) (λ same. grew (ap (λ (f : Fault). Err f) same)),
    failed_request given told accepted first behind question unopened,
  )

pub quiet_at_end : {Same : Type 0} (outcome : Result Status Fault) (code : ℕ) → outcome_code outcome ≡ code → IsEnd code → OnOk outcome Same → Same
quiet_at_end (Ok status) code is ends same = same
quiet_at_end (Err told) code is ends same = absurd (no_end told code is ends)

-- ---- where they ask for nothing

-- what is told of the words, or of help
abbrev pub IsWordsFault : CommandLineError → Fault → Type 0
IsWordsFault error told = (told ≡ fault.OutOfMemory) ⊎ ((told ≡ fault.WriteFailed) × (command_line_code error ≡ 0))

ends_with_1 : (error : CommandLineError) (told : Fault) → IsWordsFault error told → fault_code told ≡ 1
ends_with_1 error told (inl is) = ap fault_code is
ends_with_1 error told (inr (is, asked)) = ap fault_code is

-- an output that was left alone may have grown as well
left_so : {W : Type 0} (Grew : Type 0) (old new : Counted W) (told : Fault) → LeavesOutput old new (⊥) told → LeavesOutput old new Grew told
left_so Grew old new fault.OutOfMemory (inl same) = inl same
left_so Grew old new fault.OutOfMemory (inr never) = absurd never
left_so Grew old new fault.WriteFailed failed = failed
left_so Grew old new told same = same

module _ (error : CommandLineError) (code : ℕ) (ends : EndsSo error code) where
  failed_words : (words : List (List ℕ)) (told : Fault) → IsRefused words error → code ≡ 1 → EndsSo error code → IsWordsFault error told → FailedWords words told
  failed_words words told refused is_1 (inl is) (inl memory) = inl (memory, inr (record { error = error; refused = refused; code_told = sym is ∙ is_1 }))
  failed_words words told refused is_1 (inr (asked, _)) (inl memory) = inl (memory, inl (record { error = error; refused = refused; code_told = asked }))
  failed_words words told refused is_1 so (inr (written, asked)) = inr (written, record { error = error; refused = refused; code_told = asked })

  said_of_words : (octets_at : List ℕ → Option (List ℕ)) (opens_at : List ℕ → Option Bool) (given : Option (List (List ℕ))) (told : Fault)
      → IfSome given (λ words. IsRefused words error) → code ≡ 1 → IsWordsFault error told
      → IfSome given (λ words. FailedRequest words octets_at opens_at told ⊎ FailedWords words told)
  said_of_words octets_at opens_at None told refused is_1 why = tt
  said_of_words octets_at opens_at (Some words) told refused is_1 why = inr (failed_words words told refused is_1 ends why)

  pub words_told : {W : Type 0} {IsLine : Fault → Type 0} {Grew Else : Type 0} (octets_at : List ℕ → Option (List ℕ)) (opens_at : List ℕ → Option Bool) (given : Option (List (List ℕ)))
      (old new : Counted W) → IfSome given (λ words. IsRefused words error)
      → (code ≡ 1 → (told : Fault) × IsLine told × LeavesOutput old new (⊥) told × IsWordsFault error told)
      → (code ≡ 1) ⊎ (code ≡ 7)
      → ((told : Fault) × (fault_code told ≡ code) × IsLine told × LeavesOutput old new Grew told
      × IfSome given (λ words. FailedRequest words octets_at opens_at told ⊎ FailedWords words told))
      ⊎ Else
  words_told octets_at opens_at given old new refused tells (inr is_7) = absurd (no_7_of_words error code ends is_7)
  words_told octets_at opens_at given old new refused tells (inl is_1) =
      let (told, line, left, why) = tells is_1 in
      inl (told, ends_with_1 error told why ∙ sym is_1, line, left_so _ old new told left, said_of_words octets_at opens_at given told refused is_1 why)

  quiet_so : {Same : Type 0} → EndsSo error code → (code ≡ 0 → Same) → IsEnd code → Same
  quiet_so so same (inl is_0) = same is_0
  quiet_so (inl is) same (inr between) = absurd (omega (arith, is, at_most_2 error, between.0))
  quiet_so (inr (asked, is_1)) same (inr between) = absurd (omega (arith, is_1, between.0))

  pub words_quiet : {Same : Type 0} → (code ≡ 0 → Same) → IsEnd code → Same
  words_quiet = quiet_so ends
