-- The timeline of a question, and what keeps it from having one.
use Rattle.std.specs.Prelude.{◌≡◌, ℕ, ◌≤◌, List, Contains}
use Rattle.dnsv_names.specs.Name.{Labels}
use Rattle.dnsv_timeline.specs.Timeline.{IsTimelineBy}
use Rattle.dnsv_timeline.specs.declared.stretch.Stretch.{Stretch}
use Rattle.dnsv_questions.specs.declared.format.Format.{Format}
use Rattle.dnsv_moments.specs.validity.Said.{IsSaidAt, Said}
use Rattle.dnsv_moments.specs.validity.SameValid.{at_moment}
use Rattle.dnsv_moments.specs.declared.validity.kind.Kind.{Kind}
use Rattle.dnsv_chain.specs.Basis.{Basis}
use Rattle.dnsv_verdict.specs.Way.{IsRefusal}
use Rattle.dnsv_verdict.specs.declared.error.VerdictError.{VerdictError}
use Rattle.dnsv_verifier.specs.declared.answer.Answer.{Answer}
use Rattle.dnsv_verifier.specs.declared.entry.Entry.{Entry}
use Rattle.dnsv_moments.specs.Moments.{MomentsContents, basis_with}

-- the question is refused so at each moment of the range
abbrev pub IsRefusedThroughout : Basis → ℕ → ℕ → Labels → ℕ → VerdictError → Type 0
IsRefusedThroughout basis from to name t error =
    (moment : ℕ) → from ≤ moment → moment ≤ to → IsRefusal (at_moment basis moment) name t error

-- these are its timeline, by a verifier of this meaning
abbrev pub IsTimelineFor : (Entry → Answer) → MomentsContents → Format → Labels → ℕ → List (Stretch Said) → Type 0
IsTimelineFor meaning moments format name t stretches =
    IsTimelineBy (IsSaidAt format (basis_with meaning moments) name t) moments.from moments.to stretches

-- it is refused so at each moment, by a verifier of this meaning
abbrev pub IsRefusedFor : (Entry → Answer) → MomentsContents → Labels → ℕ → VerdictError → Type 0
IsRefusedFor meaning moments name t error =
    IsRefusedThroughout (basis_with meaning moments) moments.from moments.to name t error

-- each stretch tells this kind
abbrev pub TellKind : Kind → List (Stretch Said) → Type 0
TellKind kind stretches = (stretch : Stretch Said) → Contains stretches stretch → stretch.said.told.kind ≡ kind
