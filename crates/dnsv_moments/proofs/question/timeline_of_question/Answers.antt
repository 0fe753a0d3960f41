use Rattle.std.proofs.Common.{List, [], Err, ap, inl, inr, refl, sym, subst}
use Rattle.std.proofs.lemmas.Bool.{false≢true}
use Rattle.std.specs.Prelude.{◌≢◌}
use Rattle.dnsv_timeline.specs.declared.stretch.Stretch.{Stretch}
use Rattle.dnsv_moments.specs.validity.Said.{Said}
use Rattle.dnsv_moments.specs.declared.validity.kind.Kind.TheVariants.{Refused}
use Rattle.dnsv_verdict.specs.declared.error.VerdictError.{VerdictError}
use Rattle.dnsv_moments.specs.Moments.{basis_with}
use Rattle.dnsv_moments.specs.Question.{TellKind}
use Rattle.dnsv_moments.proofs.QuestionLemmas.{only_bad_question, said_none, said_one, said_told}
use Rattle.dnsv_moments.proofs.question.timeline_of_question.Goals as goal

pub returns-then-not-is_question-clause-refused : goal.returns-then-not-is_question-clause-refused
returns-then-not-is_question-clause-refused c = λ meaning by error is.
    let moments = c.args.moments.now in
    inl (ap (λ (e : VerdictError). Err e) (sym (only_bad_question (basis_with meaning moments) moments.from moments.to c.args.name.now c.args.rtype.0 error
    c.range-range.ensures.range.turned (λ question. false≢true (c.if-not-is_question.ensures.1 question)) is)))

pub returns-in-Some-clause-told : goal.returns-in-Some-clause-told
returns-in-Some-clause-told c = λ meaning by.
    let moments = c.args.moments.now in
    let Tell : List (Stretch Said) → Type 0 = λ stretches. TellKind (Refused c.in-Some.error) stretches in
    inr (said_told c.a_question_leads_one_way.ensures.refusal c.a_question_leads_one_way.ensures.not_both (basis_with meaning moments)
    moments.from moments.to c.args.name.now c.args.rtype.0 c.range-range.ensures.range.turned (c.if-not-is_question.ensures.0 refl) c.args.format c.in_ok-stretches.stretches.items
    (c.in_ok-stretches.ensures meaning by) c.in-Some.error (subst Tell c.deref.ensures.value c.in-Some.ensures))

pub returns-in-Some-clause-refused : goal.returns-in-Some-clause-refused
returns-in-Some-clause-refused c = λ meaning by error is.
    let moments = c.args.moments.now in
    let Tell : List (Stretch Said) → Type 0 = λ stretches. TellKind (Refused c.in-Some.error) stretches in
    inl (ap (λ (e : VerdictError). Err e) (said_one c.a_question_leads_one_way.ensures.refusal c.a_question_leads_one_way.ensures.not_both (basis_with meaning moments)
    moments.from moments.to c.args.name.now c.args.rtype.0 c.range-range.ensures.range.turned (c.if-not-is_question.ensures.0 refl) c.args.format c.in_ok-stretches.stretches.items
    (c.in_ok-stretches.ensures meaning by) c.in-Some.error error (subst Tell c.deref.ensures.value c.in-Some.ensures) is))

pub returns-in-None-clause-refused : goal.returns-in-None-clause-refused
returns-in-None-clause-refused c = λ meaning by error is.
    let moments = c.args.moments.now in
    let None : List (Stretch Said) → Type 0 = λ stretches. (each : VerdictError) → stretches ≢ [] → ¬ TellKind (Refused each) stretches in
    absurd (said_none c.a_question_leads_one_way.ensures.refusal c.a_question_leads_one_way.ensures.not_both (basis_with meaning moments)
    moments.from moments.to c.args.name.now c.args.rtype.0 c.range-range.ensures.range.turned (c.if-not-is_question.ensures.0 refl) c.args.format c.in_ok-stretches.stretches.items
    (c.in_ok-stretches.ensures meaning by) (subst None c.deref.ensures.value c.in-None.ensures) error is)
