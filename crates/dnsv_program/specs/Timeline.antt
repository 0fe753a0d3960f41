-- What the timeline of a question is over the files, and how a question that has none is refused.
use Rattle.std.specs.Prelude.{◌≡◌, ℕ, Bool, List}
use Rattle.dnsv_names.specs.Name.{Labels}
use Rattle.dnsv_timeline.specs.Timeline.{IsTimelineBy}
use Rattle.dnsv_timeline.specs.declared.stretch.Stretch.{Stretch}
use Rattle.dnsv_answers.specs.declared.heading.Moments.TheVariants.{Between}
use Rattle.dnsv_chain.specs.Basis.{Basis}
use Rattle.dnsv_verdict.specs.declared.error.VerdictError.{VerdictError}
use Rattle.dnsv_questions.specs.declared.format.Format.{Format}
use Rattle.dnsv_moments.specs.validity.Said.{IsSaidAt, Said}
use Rattle.dnsv_moments.specs.Question.{IsRefusedThroughout}
use Rattle.dnsv_moments.specs.texts.Text.{IsTimelineText}
use Rattle.dnsv_files.specs.Files.{Files}
use Rattle.dnsv_files.specs.declared.status.Fault.{Fault}
use Rattle.dnsv_work.specs.InOrder.{AreInOrder, basis_in}
use Rattle.dnsv_work.specs.Judged.{verdict_fault}

-- By what it is judged by at the first moment, the question isn't refused throughout the range that ends there, and the text
-- is that of its timeline: of what is said of it at each moment of the range.
pub record IsTimelineBehind (format : Format) (kinds : Bool) (basis : Basis) (name : Labels) (rtype to : ℕ) (text : List ℕ) : Type 0 where
  pub stretches : List (Stretch Said)
  pub is_timeline : IsTimelineBy (IsSaidAt format basis name rtype) basis.moment to stretches
  pub stands : (error : VerdictError) → ¬ IsRefusedThroughout basis basis.moment to name rtype error
  pub lines : IsTimelineText format kinds basis.rrsets name rtype basis.moment to stretches text

-- the files are in order, and the text is that of the question's timeline by what they say
pub record IsTimeline (format : Format) (kinds : Bool) (name : Labels) (rtype from to : ℕ) (files : Files) (text : List ℕ) : Type 0 where
  pub given : AreInOrder (Between from to) files
  pub timeline : IsTimelineBehind format kinds (basis_in given) name rtype to text

-- The files are in order, and the question is refused by one number at each moment of the range. The refusal has no place.
pub record IsStoppedThroughout (name : Labels) (rtype from to : ℕ) (files : Files) (told : Fault) : Type 0 where
  pub given : AreInOrder (Between from to) files
  pub error : VerdictError
  pub refused : IsRefusedThroughout (basis_in given) from to name rtype error
  pub is : told ≡ verdict_fault error
