-- What is said of a question within a range depends on signatures alone.
use Rattle.std.proofs.Common.{◌≡◌, ℕ, ◌≤◌, List, sym, ap, ◌∙◌, subst, arith}
use Rattle.dnsv_names.specs.Name.{Labels}
use Rattle.dnsv_canonical.specs.Rrsets.{ReceivedRrset}
use Rattle.dnsv_canonical.specs.declared.number.SignatureNumber.{SignatureNumber}
use Rattle.dnsv_lines.specs.declared.line.Line.{Line}
use Rattle.dnsv_holding.specs.Derived.{IsDerived}
use Rattle.dnsv_holding.specs.declared.derivation.Outcome.{Outcome}
use Rattle.dnsv_holding.specs.declared.derivation.Outcome.TheVariants as outcome
use Rattle.dnsv_chain.specs.Basis.{CaseContents, IsCaseOf, Basis, basis_of}
use Rattle.dnsv_verifier.specs.Table.{TableContents}
use Rattle.dnsv_verifier.specs.Within.{IsTableWithin}
use Rattle.dnsv_verifier.specs.declared.answer.Answer.{Answer}
use Rattle.dnsv_verifier.specs.declared.entry.Entry.{Entry}
use Rattle.dnsv_questions.specs.declared.format.Format.{Format}
use Rattle.dnsv_moments.specs.Dates.{AreTimesOf}
use Rattle.dnsv_timeline.specs.Timeline.{DependsOnWithin, IsTimelineBy}
use Rattle.dnsv_timeline.specs.declared.stretch.Stretch.{Stretch}
use Rattle.dnsv_timeline.specs.declared.times.Times.{Times}
use Rattle.dnsv_moments.proofs.lemmas.validity.SaidLemmas.{all_have, said_depends}
use Rattle.dnsv_moments.specs.validity.Said.{AreShownIn, IsSaid, IsSaidAt, Said, Told, told_verdict}
use Rattle.dnsv_moments.specs.validity.Said.IsSaid.{a_refusal, a_verdict}
use Rattle.dnsv_moments.specs.Moments.{IsSaidBy, MomentsContents, basis_with}
use Rattle.dnsv_moments.specs.Question.{IsTimelineFor}
use Rattle.dnsv_moments.specs.Saying.{IsSaidWithin, told_of}
use Rattle.dnsv_moments.proofs.TimelineLemmas.{timeline_follows}

module _ (moments : MomentsContents) (format : Format) (name : Labels) (t : ℕ) where
  pub said_within_depends : (signatures : List Times) → AreTimesOf moments.rrsets signatures
      → DependsOnWithin moments.from moments.to (IsSaidWithin moments format name t) signatures
  said_within_depends signatures are moment other said begun within begins ends same is meaning by from to =
      said_depends format (basis_with meaning moments) name t signatures (all_have moments.rrsets signatures are) moment other said same
      (is meaning by begun within)

  pub said_timeline : (meaning : Entry → Answer) → IsSaidBy meaning moments → (stretches : List (Stretch Said))
      → IsTimelineBy (IsSaidWithin moments format name t) moments.from moments.to stretches
      → IsTimelineFor meaning moments format name t stretches
  said_timeline meaning by =
      timeline_follows (IsSaidWithin moments format name t) (IsSaidAt format (basis_with meaning moments) name t) moments.from moments.to
      (λ moment said begun within is. is meaning by begun within)

-- where a call gives the range, the evidence and the times
module _ (moments : MomentsContents) (format : Format) (name : Labels) (t from to : ℕ) where
  pub said_depends_within : (rrsets : List ReceivedRrset) (times signatures : List Times) → from ≡ moments.from → to ≡ moments.to
      → rrsets ≡ moments.rrsets → signatures ≡ times → AreTimesOf rrsets times
      → DependsOnWithin from to (IsSaidWithin moments format name t) signatures
  said_depends_within rrsets times signatures first last evidence same are moment other said begun within begins ends valid =
      let there : AreTimesOf moments.rrsets times = subst (λ (rs : List ReceivedRrset). AreTimesOf rs times) evidence are in
      said_within_depends moments format name t signatures (subst (AreTimesOf moments.rrsets) (sym same) there) moment other said
      (omega (arith, first, begun)) (omega (arith, last, within)) (omega (arith, first, begins)) (omega (arith, last, ends)) valid

  pub said_stretches : (stretches : List (Stretch Said)) → from ≡ moments.from → to ≡ moments.to
      → IsTimelineBy (IsSaidWithin moments format name t) from to stretches
      → (meaning : Entry → Answer) → IsSaidBy meaning moments → IsTimelineFor meaning moments format name t stretches
  said_stretches stretches first last timeline meaning by =
      let begun : IsTimelineBy (IsSaidWithin moments format name t) moments.from to stretches =
      subst (λ (m : ℕ). IsTimelineBy (IsSaidWithin moments format name t) m to stretches) first timeline in
      said_timeline moments format name t meaning by stretches
      (subst (λ (m : ℕ). IsTimelineBy (IsSaidWithin moments format name t) moments.from m stretches) last begun)

-- a table for a range is one of its own evidence
pub own_within : (meaning : Entry → Answer) (from to : ℕ) (rrsets : List ReceivedRrset) (table : TableContents)
    → IsTableWithin meaning from to rrsets table → IsTableWithin meaning from to table.rrsets table
own_within meaning from to rrsets table is = subst (λ (each : List ReceivedRrset). IsTableWithin meaning from to each table) (sym is.of_rrsets) is

-- ---- at one moment

pub said_is : (format : Format) (basis : Basis) (name : Labels) (t : ℕ) (rrsets : List ReceivedRrset) (came : Outcome) (lines : List Line)
    (told : Told) (by : List SignatureNumber) (said : Said) → basis.rrsets ≡ rrsets → IsDerived basis name t came lines
    → told ≡ told_of format rrsets came → AreShownIn lines by → said ≡ record { told = told; by = by } → IsSaid format basis name t said
said_is format basis name t rrsets (outcome.Verdict report) lines told by said same derived is shown made = a_verdict (record {
  links = report.links;
  last = report.last;
  verdict = report.verdict;
  is = derived.0.verdict;
  told = ap (λ (each : Said). each.told) made ∙ is ∙ ap (λ (rs : List ReceivedRrset). told_verdict format rs report.links report.verdict) (sym same);
  lines = lines;
  derived = derived.1;
  by = subst (AreShownIn lines) (sym (ap (λ (each : Said). each.by) made)) shown;
})
said_is format basis name t rrsets (outcome.Refused error) lines told by said same derived is shown made = a_refusal (record {
  error = error;
  is = derived.is;
  told = ap (λ (each : Said). each.told) made ∙ is;
  lines = lines;
  derived = derived.derived;
  by = subst (AreShownIn lines) (sym (ap (λ (each : Said). each.by) made)) shown;
})

-- the case at the nearest moment is that at the moment, where this is one of the range
pub case_at : (moments inside : MomentsContents) → moments ≡ inside → (meaning : Entry → Answer) (moment nearest : ℕ) (case : CaseContents)
    → IsSaidBy meaning moments → moments.from ≤ moment → moment ≤ moments.to
    → (inside.from ≤ moment → moment ≤ inside.to → nearest ≡ moment)
    → (IsTableWithin meaning inside.from inside.to inside.rrsets inside.table → IsCaseOf (basis_of inside.rrsets inside.anchors nearest meaning) case)
    → IsCaseOf (basis_of moments.rrsets moments.anchors moment meaning) case
case_at moments inside same meaning moment nearest case by begun within near made =
    let from : moments.from ≡ inside.from = ap (λ (each : MomentsContents). each.from) same in
    let to : moments.to ≡ inside.to = ap (λ (each : MomentsContents). each.to) same in
    let is_near : nearest ≡ moment = near (omega (arith, from, begun)) (omega (arith, to, within)) in
    let its : IsSaidBy meaning inside = subst (IsSaidBy meaning) same by in
    let there : IsCaseOf (basis_of inside.rrsets inside.anchors moment meaning) case =
    subst (λ (m : ℕ). IsCaseOf (basis_of inside.rrsets inside.anchors m meaning) case) is_near (made its.table) in
    subst (λ (each : MomentsContents). IsCaseOf (basis_of each.rrsets each.anchors moment meaning) case) (sym same) there
