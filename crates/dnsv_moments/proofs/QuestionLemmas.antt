-- What keeps a question from having a timeline.
use Rattle.std.proofs.Common.{◌≡◌, ℕ, ◌+◌, ◌≤◌, ◌⊎◌, inr, List, [], sym, ap, ◌∙◌, subst, arith, ⊎_elim}
use Rattle.std.specs.Prelude.{◌≢◌}
use Rattle.dnsv_names.specs.Name.{Labels}
use Rattle.dnsv_questions.specs.Question.{IsQuestion}
use Rattle.dnsv_chain.specs.Basis.{Basis}
use Rattle.dnsv_verdict.specs.Way.{IsRefusedFor as IsRefusedAt}
use Rattle.dnsv_verdict.specs.declared.error.VerdictError.{VerdictError}
use Rattle.dnsv_verdict.specs.declared.error.VerdictError.TheVariants.{BadQuestion, OutOfMemory}
use Rattle.dnsv_verdict.specs.declared.verdict.Verdict.{Verdict}
use Rattle.dnsv_verdict.specs.declared.verdict.Verdict.TheVariants as verdict
use Rattle.dnsv_questions.specs.declared.format.Format.{Format}
use Rattle.dnsv_timeline.specs.Timeline.{IsTimelineBy}
use Rattle.dnsv_timeline.specs.declared.stretch.Stretch.{Stretch}
use Rattle.dnsv_moments.proofs.lemmas.validity.SaidLemmas.{HasNotBoth, HasOneRefusal}
use Rattle.dnsv_moments.specs.validity.Kinds.{verdict_kind}
use Rattle.dnsv_moments.specs.validity.Said.{IsSaid, IsSaidAt, Said}
use Rattle.dnsv_moments.specs.validity.Said.IsSaid.{a_refusal, a_verdict}
use Rattle.dnsv_moments.specs.validity.SameValid.{at_moment}
use Rattle.dnsv_moments.specs.declared.validity.kind.Kind.{Kind}
use Rattle.dnsv_moments.specs.declared.validity.kind.Kind.TheVariants.{Refused}
use Rattle.dnsv_moments.specs.Question.{IsRefusedThroughout, TellKind}
use Rattle.dnsv_moments.proofs.TimelineLemmas.{lies_within, says_of, some_stretch, stretch_at}

-- ---- refusals

-- why it is refused, as a value of every kind
abbrev error_in : Kind → VerdictError
error_in (Refused error) = error
error_in other = OutOfMemory

abbrev IsRefusedKind : Kind → Type 0
IsRefusedKind (Refused error) = Unit {0}
IsRefusedKind other = ⊥

verdict_kind_is_none : (each : Verdict) → IsRefusedKind (verdict_kind each) → ⊥
verdict_kind_is_none verdict.Indeterminate is = is
verdict_kind_is_none each is = is

pub same_error : (one other : VerdictError) → Refused one ≡ Refused other → one ≡ other
same_error one other same = ap error_in same

module _ (format : Format) (basis : Basis) (name : Labels) (t : ℕ) where
  -- who is said to be refused is
  refused_said : (said : Said) (error : VerdictError) → IsSaid format basis name t said → said.told.kind ≡ Refused error → IsRefusedAt basis name t error
  refused_said said error (a_verdict p) kind =
      let same : verdict_kind p.verdict ≡ Refused error = sym (ap (λ told. told.kind) p.told) ∙ kind in
      absurd (verdict_kind_is_none p.verdict (subst IsRefusedKind (sym same) tt))
  refused_said said error (a_refusal p) kind =
      let same : p.error ≡ error = same_error p.error error (sym (ap (λ told. told.kind) p.told) ∙ kind) in
      subst (IsRefusedAt basis name t) same p.is

  module _ (one_refusal : HasOneRefusal) (not_both : HasNotBoth) where
    -- and who is refused is said to be
    said_refused : (said : Said) (error : VerdictError) → IsSaid format basis name t said → IsRefusedAt basis name t error → said.told.kind ≡ Refused error
    said_refused said error (a_verdict p) refused = absurd (not_both basis name t p.links p.last p.verdict error p.is refused)
    said_refused said error (a_refusal p) refused =
        ap (λ told. told.kind) p.told ∙ ap (λ (e : VerdictError). Refused e) (one_refusal basis name t p.error error p.is refused)

-- ---- throughout

-- a question that can't be asked is refused for that alone
pub only_bad_question : (basis : Basis) (from to : ℕ) (name : Labels) (t : ℕ) (error : VerdictError) → from ≤ to → ¬ IsQuestion name t
    → IsRefusedThroughout basis from to name t error → error ≡ BadQuestion
only_bad_question basis from to name t error turned none is =
    ⊎_elim (λ (no_question : (error ≡ BadQuestion) × (¬ IsQuestion name t)). no_question.0)
    (λ (at_alias : IsQuestion name t × IsRefusedAt (at_moment basis from) name t error). absurd (none at_alias.0))
    (is from (omega arith) turned)

-- one that can be asked is refused for an alias, at a moment of the range
refused_at : (basis : Basis) (from to : ℕ) (name : Labels) (t : ℕ) (error : VerdictError) → IsQuestion name t
    → IsRefusedThroughout basis from to name t error → (moment : ℕ) → from ≤ moment → moment ≤ to
    → IsRefusedAt (at_moment basis moment) name t error
refused_at basis from to name t error question is moment begun ends =
    ⊎_elim (λ (no_question : (error ≡ BadQuestion) × (¬ IsQuestion name t)). absurd (no_question.1 question))
    (λ (at_alias : IsQuestion name t × IsRefusedAt (at_moment basis moment) name t error). at_alias.1)
    (is moment begun ends)

-- two that it is refused for throughout are one
pub one_refused : HasOneRefusal → (basis : Basis) (from to : ℕ) (name : Labels) (t : ℕ) (error other : VerdictError) → from ≤ to
    → IsRefusedThroughout basis from to name t error → IsRefusedThroughout basis from to name t other → error ≡ other
one_refused one_refusal basis from to name t error other turned is its =
    ⊎_elim (λ (no_question : (error ≡ BadQuestion) × (¬ IsQuestion name t)).
    no_question.0 ∙ sym (only_bad_question basis from to name t other turned no_question.1 its))
    (λ (at_alias : IsQuestion name t × IsRefusedAt (at_moment basis from) name t error).
    one_refusal (at_moment basis from) name t error other at_alias.1
    (refused_at basis from to name t other at_alias.0 its from (omega arith) turned))
    (is from (omega arith) turned)

-- of a question that can be asked
module _ (one_refusal : HasOneRefusal) (not_both : HasNotBoth) (basis : Basis) (from to : ℕ) (name : Labels) (t : ℕ)
    (turned : from ≤ to) (question : IsQuestion name t) (format : Format) (xs : List (Stretch Said))
    (timeline : IsTimelineBy (IsSaidAt format basis name t) from to xs) where
  abbrev Says : ℕ → Said → Type 0
  Says = IsSaidAt format basis name t

  pub said_told : (error : VerdictError) → TellKind (Refused error) xs → IsRefusedThroughout basis from to name t error
  said_told error all moment begun ends =
      let (x, found, starts, stops) = stretch_at from (to + 1) moment xs timeline.without_gap begun (omega (arith, ends)) in
      inr (
        question,
        refused_said format (at_moment basis moment) name t x.said error
            (says_of Says xs x timeline.each found moment starts stops) (all x found),
      )

  pub all_told : (error : VerdictError) → IsRefusedThroughout basis from to name t error → TellKind (Refused error) xs
  all_told error is x found =
      let (begins, within, ends) = lies_within from (to + 1) xs x timeline.without_gap found in
      said_refused format (at_moment basis x.from) name t one_refusal not_both x.said error
      (says_of Says xs x timeline.each found x.from (omega arith) within)
      (refused_at basis from to name t error question is x.from begins (omega (arith, within, ends)))

  -- two that all are refused for are one
  pub said_one : (one other : VerdictError) → TellKind (Refused one) xs → IsRefusedThroughout basis from to name t other → one ≡ other
  said_one one other all is =
      one_refused one_refusal basis from to name t one other turned (said_told one all) is

  pub said_none : ((error : VerdictError) → xs ≢ [] → ¬ TellKind (Refused error) xs) → (error : VerdictError)
      → ¬ IsRefusedThroughout basis from to name t error
  said_none none error is =
      none error (some_stretch from to xs turned timeline.without_gap) (all_told error is)
