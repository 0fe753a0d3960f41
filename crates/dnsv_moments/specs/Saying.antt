-- What is said of a question at the moments of a range, whoever the table is of.
use Rattle.std.specs.Prelude.{ℕ, ◌≤◌, List}
use Rattle.dnsv_names.specs.Name.{Labels}
use Rattle.dnsv_canonical.specs.Rrsets.{ReceivedRrset}
use Rattle.dnsv_verifier.specs.declared.answer.Answer.{Answer}
use Rattle.dnsv_verifier.specs.declared.entry.Entry.{Entry}
use Rattle.dnsv_holding.specs.declared.derivation.Outcome.{Outcome}
use Rattle.dnsv_holding.specs.declared.derivation.Outcome.TheVariants as outcome
use Rattle.dnsv_questions.specs.declared.format.Format.{Format}
use Rattle.dnsv_moments.specs.validity.Said.{IsSaidAt, Said, Told, told_refusal, told_verdict}
use Rattle.dnsv_moments.specs.Moments.{IsSaidBy, MomentsContents, basis_with}

-- what is told of what a question comes to
abbrev pub told_of : Format → List ReceivedRrset → Outcome → Told
told_of format rrsets (outcome.Verdict report) = told_verdict format rrsets report.links report.verdict
told_of format rrsets (outcome.Refused error) = told_refusal error

-- This is said of it at the moment, if that is one of the range.
abbrev pub IsSaidWithin : MomentsContents → Format → Labels → ℕ → ℕ → Said → Type 0
IsSaidWithin moments format name t moment said = (meaning : Entry → Answer) → IsSaidBy meaning moments
    → moments.from ≤ moment → moment ≤ moments.to → IsSaidAt format (basis_with meaning moments) name t moment said

-- a question that is asked at each of the moments, with texts of a format
pub record AskedThroughout : Type 0 where
  pub moments : MomentsContents
  pub name : Labels
  pub rtype : ℕ
  pub format : Format
