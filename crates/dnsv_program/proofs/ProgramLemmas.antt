-- How the program ends by what its parts answer.
pub mod Refusals
pub mod Told
pub mod Words
use Rattle.std.proofs.Common.{◌≡◌, ◌⊎◌, ℕ, List, Option, Some, None, ap, refl, sym, inl, inr, arith}
use Rattle.std.specs.Prelude.{Result, Ok, Err, IfErr, IfOk, IfSome}
use Rattle.std.specs.Io.KnownBytes.{Appends}
use Rattle.dnsv_message.specs.Streams.Counted.{AppendsBeginning}
use Rattle.dnsv_commands.specs.declared.request.Request.{Request}
use Rattle.dnsv_files.specs.declared.status.Status.{Status}
use Rattle.dnsv_files.specs.declared.status.Status.TheVariants.{Done, Refused}
use Rattle.dnsv_files.specs.declared.status.Fault.{Fault}
use Rattle.dnsv_files.specs.declared.status.Fault.TheVariants as fault
use Rattle.dnsv_files.specs.declared.status.Place.{Place}
use Rattle.dnsv_files.specs.declared.status.Refusal.{Refusal}
use Rattle.dnsv_files.specs.Files.{Files}
use Rattle.dnsv_commands.specs.CommandLine.{IsAccepted}
use Rattle.dnsv_work.specs.Opened.{AreFilesAt}
use Rattle.dnsv_program.specs.Program.{BeganText, IsEnd, RefusedFiles, RefusedWords, WroteFirst, WroteRefused, WroteText}
use Rattle.dnsv_program.specs.Run.{AsksMany, IsTextAskedFor, IsTextOfFewer, IsTextOfFirst, IsFirstFault}
use Rattle.dnsv_files.specs.Status.{fault_code, outcome_code, status_code}

-- a fault ends with 1 or 7
one_of : (told : Fault) (code : ℕ) → fault_code told ≡ code → (code ≡ 1) ⊎ (code ≡ 7)
one_of (fault.Refused why place) code is = inr (sym is)
one_of told code is = inl (sym is)

neither : (code : ℕ) → (code ≡ 1) ⊎ (code ≡ 7) → IsEnd code → ⊥
neither code (inl is_1) (inl is_0) = omega (arith, is_1, is_0)
neither code (inl is_1) (inr between) = omega (arith, is_1, between.0)
neither code (inr is_7) (inl is_0) = omega (arith, is_7, is_0)
neither code (inr is_7) (inr between) = omega (arith, is_7, between.1)

pub no_end : (told : Fault) (code : ℕ) → fault_code told ≡ code → IsEnd code → ⊥
no_end told code is ends = neither code (one_of told code is) ends

-- such an exit status is no fault's
pub ended_well : {X : Status → Type 0} (outcome : Result Status Fault) (code : ℕ) → outcome_code outcome ≡ code → IsEnd code → IfOk outcome X
    → (status : Status) × (status_code status ≡ code) × X status
ended_well (Ok status) code is ends holds = (status, is, holds)
ended_well (Err failed) code is ends holds = absurd (no_end failed code is ends)

pub no_1 : (status : Status) → status_code status ≡ 1 → ⊥
no_1 Done is_1 = omega (arith, is_1)
no_1 status is_1 = omega (arith, is_1)

-- of the ends of a whole text 7 is that of a refused question alone
pub refused_alone : (status : Status) → status_code status ≡ 7 → status ≡ Refused
refused_alone Refused is_7 = refl
refused_alone status is_7 = absurd (omega (arith, is_7))

-- 7 is the exit status of a refusal: of a question among many, or of all
pub ended_refused : (outcome : Result Status Fault) → outcome_code outcome ≡ 7
    → (outcome ≡ Ok Refused) ⊎ ((why : Refusal) × (place : Place) × (outcome ≡ Err (fault.Refused why place)))
ended_refused (Ok status) is_7 = inl (ap (λ (each : Status). Ok each) (refused_alone status is_7))
ended_refused (Err fault.OutOfMemory) is_7 = absurd (omega (arith, is_7))
ended_refused (Err (fault.ReadFailed file)) is_7 = absurd (omega (arith, is_7))
ended_refused (Err (fault.TooLong file)) is_7 = absurd (omega (arith, is_7))
ended_refused (Err (fault.OpenFailed file)) is_7 = absurd (omega (arith, is_7))
ended_refused (Err fault.WriteFailed) is_7 = absurd (omega (arith, is_7))
ended_refused (Err (fault.Refused why place)) is_7 = inr (why, place, refl)

-- 1 is the exit status of a failed write, of memory that was wanting, or of a fault that left the output as it was
pub ended_failed : {Same Begun First : Type 0} (outcome : Result Status Fault) → outcome_code outcome ≡ 1
    → IfErr outcome (λ failed. (failed ≡ fault.WriteFailed → ⊥) → (failed ≡ fault.OutOfMemory → ⊥) → Same) → (outcome ≡ Err fault.WriteFailed → Begun)
    → (outcome ≡ Err fault.OutOfMemory → Same ⊎ First) → Same ⊎ (Begun ⊎ First)
ended_failed (Ok status) is_1 untouched begun whole = absurd (no_1 status is_1)
ended_failed (Err fault.OutOfMemory) is_1 untouched begun whole = beside (whole refl)
  where
    beside : {A B C : Type 0} → A ⊎ C → A ⊎ (B ⊎ C)
    beside (inl a) = inl a
    beside (inr c) = inr (inr c)
ended_failed (Err (fault.ReadFailed file)) is_1 untouched begun whole = inl (untouched (λ is. cc) (λ is. cc))
ended_failed (Err (fault.TooLong file)) is_1 untouched begun whole = inl (untouched (λ is. cc) (λ is. cc))
ended_failed (Err (fault.OpenFailed file)) is_1 untouched begun whole = inl (untouched (λ is. cc) (λ is. cc))
ended_failed (Err fault.WriteFailed) is_1 untouched begun whole = inr (inl (begun refl))
ended_failed (Err (fault.Refused why place)) is_1 untouched begun whole = absurd (omega (arith, is_1))

pub began : (given : Option (List (List ℕ))) (octets_at : List ℕ → Option (List ℕ)) (old new : Option (List ℕ)) (request : Request)
    → IfSome given (λ words. IsAccepted words request)
    → ((files : Files) → AreFilesAt octets_at request files → (text : List ℕ) × IsTextOfFirst request files text × AppendsBeginning old new text)
    → IfSome given (λ words. BeganText words octets_at old new)
began None octets_at old new request accepted text = tt
began (Some words) octets_at old new request accepted text = record { request = request; accepted = accepted; text = text }

-- the text of fewer than all of many questions was written
pub wrote_first : (given : Option (List (List ℕ))) (octets_at : List ℕ → Option (List ℕ)) (old new : Option (List ℕ)) (request : Request)
    → IfSome given (λ words. IsAccepted words request) → AsksMany request
    → ((files : Files) → AreFilesAt octets_at request files → (text : List ℕ) × IsTextOfFewer request files text × Appends old new text)
    → IfSome given (λ words. WroteFirst words octets_at old new)
wrote_first None octets_at old new request accepted many text = tt
wrote_first (Some words) octets_at old new request accepted many text = record { request = request; accepted = accepted; many = many; text = text }

-- or of all, of which one is refused by itself
pub wrote_refused : (given : Option (List (List ℕ))) (octets_at : List ℕ → Option (List ℕ)) (old new : Option (List ℕ)) (request : Request)
    → IfSome given (λ words. IsAccepted words request) → AsksMany request
    → ((files : Files) → AreFilesAt octets_at request files → (text : List ℕ) × IsTextAskedFor request files Refused text × Appends old new text)
    → IfSome given (λ words. WroteRefused words octets_at old new)
wrote_refused None octets_at old new request accepted many text = tt
wrote_refused (Some words) octets_at old new request accepted many text = record { request = request; accepted = accepted; many = many; text = text }

pub wrote : (given : Option (List (List ℕ))) (octets_at : List ℕ → Option (List ℕ)) (old new : Option (List ℕ)) (request : Request) (code : ℕ) (Helped : Type 0)
    → IfSome given (λ words. IsAccepted words request)
    → ((files : Files) → AreFilesAt octets_at request files
    → (status : Status) × (status_code status ≡ code) × ((text : List ℕ) × IsTextAskedFor request files status text × Appends old new text))
    → IfSome given (λ words. WroteText words octets_at old new code ⊎ (RefusedWords words code × Helped))
wrote None octets_at old new request code Helped accepted text = tt
wrote (Some words) octets_at old new request code Helped accepted text = inl (record {
  request = request;
  accepted = accepted;
  text = λ files are. let ended = text files are in (ended.0, ended.2.0, ended.2.1, ended.1, ended.2.2);
})

pub refused : (given : Option (List (List ℕ))) (octets_at : List ℕ → Option (List ℕ)) (request : Request) (why : Refusal) (place : Place)
    → IfSome given (λ words. IsAccepted words request)
    → ((files : Files) → AreFilesAt octets_at request files → IsFirstFault request files (fault.Refused why place))
    → IfSome given (λ words. RefusedFiles words octets_at)
refused None octets_at request why place accepted holds = tt
refused (Some words) octets_at request why place accepted holds =
    record { request = request; accepted = accepted; refused = λ files are. (why, place, holds files are) }
