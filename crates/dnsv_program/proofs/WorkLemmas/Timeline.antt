-- The timeline of a question over files that were all taken.
use Rattle.std.proofs.Common.{◌≡◌, ◌⊎◌, ⊎_elim, ℕ, Bool, List, inl, inr, refl, subst, sym}
use Rattle.std.specs.Prelude.{Err, IfOk, IsErrOf, Ok, Result}
use Rattle.dnsv_names.specs.Name.{Labels}
use Rattle.dnsv_canonical.specs.Rrsets.{ReceivedRrset}
use Rattle.dnsv_timeline.specs.declared.stretch.Stretch.{Stretch}
use Rattle.dnsv_answers.specs.declared.heading.Moments.TheVariants.{Between}
use Rattle.dnsv_verifier.specs.declared.answer.Answer.{Answer}
use Rattle.dnsv_verifier.specs.declared.entry.Entry.{Entry}
use Rattle.dnsv_anchors.specs.declared.anchor.Anchor.{Anchor}
use Rattle.dnsv_chain.specs.Basis.{Basis, basis_of}
use Rattle.dnsv_verdict.specs.declared.error.VerdictError.{VerdictError}
use Rattle.dnsv_verdict.specs.declared.error.VerdictError.TheVariants.{OutOfMemory}
use Rattle.dnsv_questions.specs.declared.format.Format.{Format}
use Rattle.dnsv_moments.specs.Moments.{AreMomentsBy, MomentsContents, basis_with}
use Rattle.dnsv_moments.specs.Question.{IsRefusedFor, IsRefusedThroughout, IsTimelineFor}
use Rattle.dnsv_timeline.specs.Timeline.{IsTimelineBy}
use Rattle.dnsv_moments.specs.validity.Said.{IsSaidAt, Said}
use Rattle.dnsv_moments.specs.texts.Text.{IsTimelineText}
use Rattle.dnsv_files.specs.declared.status.Fault.{Fault}
use Rattle.dnsv_files.specs.declared.status.Place.{Place}
use Rattle.dnsv_files.specs.declared.status.Refusal.{Refusal}
use Rattle.dnsv_files.specs.Files.{Files}
use Rattle.dnsv_files.specs.Told.{IsFaultOf}
use Rattle.dnsv_work.specs.InOrder.{AreReadFrom}
use Rattle.dnsv_work.specs.Judged.{verdict_fault}
use Rattle.dnsv_work.specs.Known.{Ground}
use Rattle.dnsv_program.specs.Timeline.{IsStoppedThroughout, IsTimeline, IsTimelineBehind}
use Rattle.dnsv_work.specs.declared.given.Said as given
use Rattle.dnsv_work.proofs.WorkLemmas.InOrder.{all_given}

-- ---- what is said at the moments

module _ (meaning : Entry → Answer) (rrsets : List ReceivedRrset) (anchors : List Anchor) (from to : ℕ) (moments : MomentsContents)
    (are : AreMomentsBy rrsets anchors from to meaning moments) where
  -- what is so of the moments is so of what they were made of
  by_moments : (P : Basis → ℕ → ℕ → Type 0) → P (basis_with meaning moments) moments.from moments.to → P (basis_of rrsets anchors from meaning) from to
  by_moments P holds =
      subst (λ (last : ℕ). P (basis_of rrsets anchors from meaning) from last) are.last
      (subst (λ (first : ℕ). P (basis_of rrsets anchors first meaning) first moments.to) are.first
      (subst (λ (each : List Anchor). P (basis_of rrsets each moments.from meaning) moments.from moments.to) are.given
      (subst (λ (each : List ReceivedRrset). P (basis_of each moments.anchors moments.from meaning) moments.from moments.to) are.evidence holds)))

  -- the text of stretches is that of the timeline
  pub timeline_said : (format : Format) (kinds : Bool) (name : Labels) (rtype : ℕ) (stretches : List (Stretch Said)) (text : List ℕ)
      → IsTimelineFor meaning moments format name rtype stretches
      → ((error : VerdictError) → ¬ IsRefusedFor meaning moments name rtype error)
      → IsTimelineText format kinds rrsets name rtype from to stretches text
      → IsTimelineBehind format kinds (basis_of rrsets anchors from meaning) name rtype to text
  timeline_said format kinds name rtype stretches text is stands lines = record {
    stretches = stretches;
    is_timeline = by_moments (λ basis first last. IsTimelineBy (IsSaidAt format basis name rtype) first last stretches) is;
    stands = λ error. by_moments (λ basis first last. ¬ IsRefusedThroughout basis first last name rtype error) (stands error);
    lines = lines;
  }

  -- what keeps the question from having one
  pub refused_said : {G : Type 0} (knowing : G) (P : Refusal → Place → Type 0) (Refused : G → VerdictError → Type 0) (name : Labels) (rtype : ℕ) (error : VerdictError) (told : Fault)
      → ((error : VerdictError) → IsRefusedThroughout (basis_of rrsets anchors from meaning) from to name rtype error → Refused knowing error)
      → (error ≡ OutOfMemory) ⊎ IsRefusedFor meaning moments name rtype error → told ≡ verdict_fault error
      → IsFaultOf P told ⊎ ((each : G) × (error : VerdictError) × Refused each error × (told ≡ verdict_fault error))
  refused_said knowing P Refused name rtype error told then (inl memory) is =
      inl (subst (IsFaultOf P) (sym (subst (λ (each : VerdictError). told ≡ verdict_fault each) memory is)) tt)
  refused_said knowing P Refused name rtype error told then (inr refused) is =
      inr (knowing, error, then error (by_moments (λ basis first last. IsRefusedThroughout basis first last name rtype error) refused), is)

-- stretches are there only where the question isn't refused
pub unrefused : {X : Type 0} {x : X} (Refused : VerdictError → Type 0)
    → ((error : VerdictError) → Refused error → IsErrOf {T = X} (Ok x) error ⊎ IsErrOf {T = X} (Ok x) OutOfMemory) → (error : VerdictError) → ¬ Refused error
unrefused {X} {x} Refused told error refused =
    ⊎_elim (λ (bad : IsErrOf {T = X} (Ok x) error). let none : ⊥ = cc in none) (λ (bad : IsErrOf {T = X} (Ok x) OutOfMemory). let none : ⊥ = cc in none) (told error refused)

-- ---- over the files

module _ (name : Labels) (rtype from to : ℕ) (files : Files) {rrsets : List ReceivedRrset} {anchors : List Anchor} {said : given.Said}
    (read : AreReadFrom (Between from to) files rrsets anchors said) where
  -- what is told by what the files say is told over them
  pub all_timed : (format : Format) (kinds : Bool) {T E : Type 0} (bytes : T → List ℕ) (result : Result T E)
      → IfOk result (λ text. (knowing : Ground (Between from to) rrsets said)
      × IsTimelineBehind format kinds (basis_of rrsets anchors from knowing.meaning) name rtype to (bytes text))
      → IfOk result (λ text. IsTimeline format kinds name rtype from to files (bytes text))
  all_timed format kinds bytes (Err told) timed = tt
  all_timed format kinds bytes (Ok text) timed =
      let knowing = timed.0 in
      let are = all_given (Between from to) files read knowing.meaning knowing.numbers knowing.knows in record {
        given = are.given;
        timeline = subst (λ (basis : Basis). IsTimelineBehind format kinds basis name rtype to (bytes text)) are.is timed.1;
      }

  -- and so is what is refused throughout
  pub stopped_throughout : (knowing : Ground (Between from to) rrsets said) (error : VerdictError)
      → IsRefusedThroughout (basis_of rrsets anchors from knowing.meaning) from to name rtype error → IsStoppedThroughout name rtype from to files (verdict_fault error)
  stopped_throughout knowing error refused =
      let are = all_given (Between from to) files read knowing.meaning knowing.numbers knowing.knows in record {
        given = are.given;
        error = error;
        refused = subst (λ (basis : Basis). IsRefusedThroughout basis from to name rtype error) are.is refused;
        is = refl;
      }
