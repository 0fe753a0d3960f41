-- A range that is none is told before any file is read, behind the question.
use Rattle.std.proofs.Common.{◌≡◌, ℕ, List, Option, inl, inr, refl, subst, sym}
use Rattle.std.specs.Prelude.{Err, Result}
use Rattle.dnsv_names.specs.Name.{Labels}
use Rattle.dnsv_questions.specs.Question.{IsQuestion}
use Rattle.dnsv_files.specs.declared.inputs.Inputs.{Inputs}
use Rattle.dnsv_files.specs.declared.status.Fault.{Fault}
use Rattle.dnsv_files.specs.declared.status.Fault.TheVariants as fault
use Rattle.dnsv_files.specs.declared.status.InputFile.{InputFile}
use Rattle.dnsv_files.specs.declared.status.Refusal.TheVariants as refusal
use Rattle.dnsv_files.specs.Files.Faults.{OfFailedRead, TellsFaults}
use Rattle.dnsv_files.specs.Files.{Files, given_failures}
use Rattle.dnsv_files.specs.Told.{nowhere}
use Rattle.dnsv_files.proofs.FileLemmas.Faults.{reads_of_none, reads_untouched, same_fault}
use Rattle.dnsv_work.specs.Question.{Spells}
use Rattle.dnsv_work.specs.Faults.{IsFaultOfQuestion, IsTimelineRefused, IsFaultOfRange}

-- a question that is refused is told before the range
pub name_refused : {T : Type 0} (asked : List ℕ) (rtype from to : ℕ) (told : Fault)
    → ((other : Fault) → IsFaultOfQuestion asked rtype other → Path (Result T Fault) (Err told) (Err other))
    → ((name : Labels) → Spells asked name → ¬ IsQuestion name rtype) → (other : Fault) → IsTimelineRefused asked rtype from to other → told ≡ other
name_refused asked rtype from to told every none other (inl bad) = same_fault (every other bad)
name_refused asked rtype from to told every none other (inr bad) = absurd (none bad.0 bad.1 bad.2)

module _ (from to : ℕ) (told : Fault) (bad : IsFaultOfRange from to told) where
  -- a range that is none is told before any file is read
  pub range_refused : {R T : Type 0} {remaining : R → Option (List ℕ)} {before : Inputs R} (Whole : Files → Fault → Type 0) → ((files : Files) → Whole files told)
      → TellsFaults {T = T} Whole remaining before before (Err told)
  range_refused {R} {T} {remaining} {before} Whole first =
      subst (λ (each : Fault). TellsFaults {T = T} Whole remaining before before (Err each)) (sym bad.1) (record {
        first = λ files are. subst (λ (each : Fault). Whole files each) bad.1 (first files);
        reads = reads_of_none {before = before} {after = before} (Err (fault.Refused refusal.BadRange nowhere)) refl refl refl refl refl refl tt;
        questions = reads_untouched (given_failures before.questions) (given_failures before.questions) (Err (fault.Refused refusal.BadRange nowhere)) refl (λ is. cc);
      })

  pub range_unread : (Of : InputFile → Type 0) → OfFailedRead Of told
  range_unread Of = subst (OfFailedRead Of) (sym bad.1) tt
