-- How the program ends where one of many questions is refused by itself, or memory is wanting behind some of them.
use Rattle.std.proofs.Common.{◌≡◌, ◌⊎◌, List, Option, inl, inr, subst, ℕ}
use Rattle.std.specs.Prelude.{Err, IfErr, IfOk, IfSome, Ok, OnOk, Result}
use Rattle.std.specs.Io.KnownBytes.{Appends}
use Rattle.dnsv_commands.specs.CommandLine.{IsAccepted}
use Rattle.dnsv_files.specs.Files.{Files}
use Rattle.dnsv_work.specs.Opened.{AreFilesAt}
use Rattle.dnsv_program.specs.Program.{RefusedFiles, WroteFirst, WroteRefused}
use Rattle.dnsv_program.specs.Run.{AsksMany, IsFirstFault, IsTextAskedFor, IsTextOfFewer}
use Rattle.dnsv_files.specs.Status.{outcome_code}
use Rattle.dnsv_commands.specs.declared.request.Request.{Request}
use Rattle.dnsv_files.specs.declared.status.Fault.{Fault}
use Rattle.dnsv_files.specs.declared.status.Fault.TheVariants as fault
use Rattle.dnsv_files.specs.declared.status.Place.{Place}
use Rattle.dnsv_files.specs.declared.status.Refusal.{Refusal}
use Rattle.dnsv_files.specs.declared.status.Status.{Status}
use Rattle.dnsv_files.specs.declared.status.Status.TheVariants.{Refused}
use Rattle.dnsv_program.proofs.ProgramLemmas.{ended_refused, refused, wrote_first, wrote_refused}

-- where memory was wanting, nothing was written, or the text of fewer than all of many questions
pub first_wrote : {Same : Type 0} (given : Option (List (List ℕ))) (octets_at : List ℕ → Option (List ℕ)) (old new : Option (List ℕ)) (request : Request)
    → IfSome given (λ words. IsAccepted words request)
    → Same ⊎ (AsksMany request × ((files : Files) → AreFilesAt octets_at request files → (text : List ℕ) × IsTextOfFewer request files text × Appends old new text))
    → Same ⊎ IfSome given (λ words. WroteFirst words octets_at old new)
first_wrote given octets_at old new request accepted (inl same) = inl same
first_wrote given octets_at old new request accepted (inr whole) = inr (wrote_first given octets_at old new request accepted whole.0 whole.1)

-- where one of many questions is refused, the text of all of them
pub refused_wrote : (given : Option (List (List ℕ))) (octets_at : List ℕ → Option (List ℕ)) (old new : Option (List ℕ)) (request : Request) (outcome : Result Status Fault)
    → IfSome given (λ words. IsAccepted words request) → outcome ≡ Ok Refused → (outcome ≡ Ok Refused → AsksMany request)
    → ((files : Files) → AreFilesAt octets_at request files → IfOk outcome (λ status. (text : List ℕ) × IsTextAskedFor request files status text × Appends old new text))
    → IfSome given (λ words. WroteRefused words octets_at old new)
refused_wrote given octets_at old new request outcome accepted is many done =
    wrote_refused given octets_at old new request accepted (many is) (λ files are.
    subst (λ (each : Result Status Fault). IfOk each (λ status. (text : List ℕ) × IsTextAskedFor request files status text × Appends old new text)) is (done files are))

-- the program ends with 7
pub refused_ends : {Same Quiet : Type 0} (given : Option (List (List ℕ))) (octets_at : List ℕ → Option (List ℕ)) (old new : Option (List ℕ)) (request : Request) (outcome : Result Status Fault)
    → IfSome given (λ words. IsAccepted words request) → outcome_code outcome ≡ 7
    → IfErr outcome (λ told. (told ≡ fault.WriteFailed → ⊥) → (told ≡ fault.OutOfMemory → ⊥) → Same)
    → ((files : Files) → AreFilesAt octets_at request files → (why : Refusal) (place : Place) → outcome ≡ Err (fault.Refused why place)
    → IsFirstFault request files (fault.Refused why place))
    → OnOk outcome Quiet → (outcome ≡ Ok Refused → AsksMany request)
    → ((files : Files) → AreFilesAt octets_at request files → IfOk outcome (λ status. (text : List ℕ) × IsTextAskedFor request files status text × Appends old new text))
    → (Same × IfSome given (λ words. RefusedFiles words octets_at)) ⊎ (Quiet × IfSome given (λ words. WroteRefused words octets_at old new))
refused_ends {Same} {Quiet} given octets_at old new request outcome accepted is_7 untouched first quiet many done = go (ended_refused outcome is_7)
  where
    go : (outcome ≡ Ok Refused) ⊎ ((why : Refusal) × (place : Place) × (outcome ≡ Err (fault.Refused why place)))
        → (Same × IfSome given (λ words. RefusedFiles words octets_at)) ⊎ (Quiet × IfSome given (λ words. WroteRefused words octets_at old new))
    go (inl is) = inr (subst (λ (each : Result Status Fault). OnOk each Quiet) is quiet, refused_wrote given octets_at old new request outcome accepted is many done)
    go (inr (why, place, is)) = inl (
      subst (λ (each : Result Status Fault). IfErr each (λ told. (told ≡ fault.WriteFailed → ⊥) → (told ≡ fault.OutOfMemory → ⊥) → Same)) is untouched (λ e. cc) (λ e. cc),
      refused given octets_at request why place accepted (λ files are. first files are why place is),
    )
