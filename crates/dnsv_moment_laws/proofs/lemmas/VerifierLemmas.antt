-- What holds at the moments of a range is the same for all verifiers that the table may be of.
use Rattle.std.proofs.Common.{◌≡◌, ◌∙◌, ◌≤◌, ℕ, List, sym}
use Rattle.dnsv_names.specs.Name.{Labels}
use Rattle.dnsv_canonical.specs.Rrsets.{ReceivedRrset}
use Rattle.dnsv_chain.specs.Basis.{Basis, with_meaning}
use Rattle.dnsv_verdict.specs.Way.{IsRefusal}
use Rattle.dnsv_verdict.specs.declared.error.VerdictError.{VerdictError}
use Rattle.dnsv_verifier.specs.Table.{TableContents, table_answer}
use Rattle.dnsv_verifier.specs.Within.{IsAskedWithin, IsTableWithin}
use Rattle.dnsv_verifier.specs.declared.answer.Answer.{Answer}
use Rattle.dnsv_verifier.specs.declared.entry.Entry.{Entry}
use Rattle.dnsv_questions.specs.declared.format.Format.{Format}
use Rattle.dnsv_timeline.specs.declared.stretch.Stretch.{Stretch}
use Rattle.dnsv_moment_laws.specs.Alike.{AreAnsweredAlike}
use Rattle.dnsv_moments.specs.validity.Said.{IsSaid, IsSaidAt, Said}
use Rattle.dnsv_moments.specs.validity.SameValid.{at_moment}
use Rattle.dnsv_moments.specs.Moments.{IsSaidBy, MomentsContents, basis_with}
use Rattle.dnsv_moments.specs.Question.{IsRefusedFor, IsTimelineFor}
use Rattle.dnsv_moments.proofs.TimelineLemmas.{timeline_follows}

-- a table for a range says what its verifier says of all that is asked within it
abbrev pub SaysWithin : Type 0
SaysWithin = (meaning : Entry → Answer) (from to : ℕ) (rrsets : List ReceivedRrset) (within : TableContents)
    → IsTableWithin meaning from to rrsets within
    → (entry : Entry) → IsAskedWithin from to rrsets entry → table_answer within entry ≡ meaning entry

-- what is said depends on the verifier through what is asked alone
abbrev pub SaidByAsked : Type 0
SaidByAsked = (format : Format) (basis : Basis) (other : Entry → Answer) (name : Labels) (t : ℕ) (said : Said)
    → AreAnsweredAlike basis other → IsSaid format basis name t said → IsSaid format (with_meaning basis other) name t said

-- and so does what a question is refused for
abbrev pub RefusedByAsked : Type 0
RefusedByAsked = (basis : Basis) (other : Entry → Answer) (name : Labels) (t : ℕ) (error : VerdictError)
    → AreAnsweredAlike basis other → IsRefusal basis name t error → IsRefusal (with_meaning basis other) name t error

module _ (says : SaysWithin) (meaning other : Entry → Answer) (moments : MomentsContents) (by : IsSaidBy meaning moments)
    (its : IsSaidBy other moments) where
  alike_at : (moment : ℕ) → moments.from ≤ moment → moment ≤ moments.to → AreAnsweredAlike (at_moment (basis_with meaning moments) moment) other
  alike_at moment begun ends entry asked =
      let within : IsAskedWithin moments.from moments.to moments.rrsets entry =
      record { moment = moment; begins = begun; ends = ends; asked = asked } in
      sym (says meaning moments.from moments.to moments.rrsets moments.table by.table entry within)
      ∙ says other moments.from moments.to moments.rrsets moments.table its.table entry within

  pub timeline_of_other : SaidByAsked → (format : Format) (name : Labels) (t : ℕ) (stretches : List (Stretch Said))
      → IsTimelineFor meaning moments format name t stretches → IsTimelineFor other moments format name t stretches
  timeline_of_other depends format name t stretches =
      timeline_follows (IsSaidAt format (basis_with meaning moments) name t) (IsSaidAt format (basis_with other moments) name t)
      moments.from moments.to
      (λ moment said begun ends is.
      depends format (at_moment (basis_with meaning moments) moment) other name t said (alike_at moment begun ends) is)
      stretches

  pub refused_for_other : RefusedByAsked → (name : Labels) (t : ℕ) (error : VerdictError) → IsRefusedFor meaning moments name t error
      → IsRefusedFor other moments name t error
  refused_for_other depends name t error is moment begun ends =
      depends (at_moment (basis_with meaning moments) moment) other name t error (alike_at moment begun ends) (is moment begun ends)
