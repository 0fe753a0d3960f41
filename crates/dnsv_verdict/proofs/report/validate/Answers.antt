-- each clause is that of the case's verdict
use Rattle.std.proofs.Common.{inl, inr, refl}
use Rattle.std.proofs.lemmas.Result.{err_from_is_err_and}
use Rattle.dnsv_verdict.proofs.ReportLemmas.{either_alike, no_error, no_question}
use Rattle.dnsv_chain.specs.Basis.{Basis, basis_of}
use Rattle.dnsv_verdict.proofs.report.validate.Goals as goal

pub returns-clause-verdict : goal.returns-clause-verdict
returns-clause-verdict g c = (c.in_ok-judged.ensures.report _ c.in_ok-case.ensures.of).verdict

pub returns-clause-meaning : goal.returns-clause-meaning
returns-clause-meaning g c = (c.in_ok-judged.ensures.report _ c.in_ok-case.ensures.of).meaning

pub returns-clause-aliases : goal.returns-clause-aliases
returns-clause-aliases g c = (c.in_ok-judged.ensures.report _ c.in_ok-case.ensures.of).aliases

pub returns-clause-whole_chains : goal.returns-clause-whole_chains
returns-clause-whole_chains g c = (c.in_ok-judged.ensures.report _ c.in_ok-case.ensures.of).whole_chains

pub returns-clause-asked : goal.returns-clause-asked
returns-clause-asked g c = (c.in_ok-judged.ensures.report _ c.in_ok-case.ensures.of).asked

pub returns-clause-hashed : goal.returns-clause-hashed
returns-clause-hashed g c = (c.in_ok-judged.ensures.report _ c.in_ok-case.ensures.of).hashed

pub returns-clause-few : goal.returns-clause-few
returns-clause-few g c = (c.in_ok-judged.ensures.report _ c.in_ok-case.ensures.of).few

pub returns-clause-question : goal.returns-clause-question
returns-clause-question g c = λ never. absurd (never (c.is_question.ensures.0 c.if-not-is_question.false))

pub returns-clause-refused : goal.returns-clause-refused
returns-clause-refused g c = λ error refused.
    absurd (no_error c.in_ok-judged.judged error ((c.in_ok-judged.ensures.refused _ c.in_ok-case.ensures.of).refused error refused))

-- ---- a type that can't be asked at the name

pub returns-then-not-is_question-clause-question : goal.returns-then-not-is_question-clause-question
returns-then-not-is_question-clause-question g c = λ never. refl

pub returns-then-not-is_question-clause-told : goal.returns-then-not-is_question-clause-told
returns-then-not-is_question-clause-told g c = inr (inl (refl, λ asked. (let holds = c.is_question.ensures.1 asked in let fails = c.if-not-is_question.true in cc)))

pub returns-then-not-is_question-clause-refused : goal.returns-then-not-is_question-clause-refused
returns-then-not-is_question-clause-refused g c =
    let basis : Basis = basis_of c.args.capture.now.rrsets c.args.anchors.now c.args.moment (g.V.Verifier.meaning c.args.verifier.now) in
    (no_question basis c.args.name.now c.args.rtype.0
    (λ asked. (let holds = c.is_question.ensures.1 asked in let fails = c.if-not-is_question.true in cc))).refused

-- ---- want of memory for the case

pub returns-in_err-case-clause-question : goal.returns-in_err-case-clause-question
returns-in_err-case-clause-question g c = λ never. absurd (never (c.is_question.ensures.0 c.if-not-is_question.false))

pub returns-in_err-case-clause-told : goal.returns-in_err-case-clause-told
returns-in_err-case-clause-told g c =
    let p = err_from_is_err_and c.from_residual.result c.from_residual.ensures.1 in
    rw (p.1, p.2) (inl refl)

pub returns-in_err-case-clause-refused : goal.returns-in_err-case-clause-refused
returns-in_err-case-clause-refused g c = λ error refused.
    let p = err_from_is_err_and c.from_residual.result c.from_residual.ensures.1 in
    rw (p.1, p.2) (inr refl)

-- ---- what the question is refused for

pub returns-in_err-judged-clause-question : goal.returns-in_err-judged-clause-question
returns-in_err-judged-clause-question g c = λ never. absurd (never (c.is_question.ensures.0 c.if-not-is_question.false))

pub returns-in_err-judged-clause-told : goal.returns-in_err-judged-clause-told
returns-in_err-judged-clause-told g c =
    let p = err_from_is_err_and c.from_residual-in_err-judged.result c.from_residual-in_err-judged.ensures.1 in
    rw (p.1, p.2) ((c.in_err-judged.ensures.refused _ c.in_ok-case.ensures.of).told)

pub returns-in_err-judged-clause-refused : goal.returns-in_err-judged-clause-refused
returns-in_err-judged-clause-refused g c = λ error refused.
    let p = err_from_is_err_and c.from_residual-in_err-judged.result c.from_residual-in_err-judged.ensures.1 in
    rw (p.1, p.2) (either_alike c.in_err-judged.field-0.0 error ((c.in_err-judged.ensures.refused _ c.in_ok-case.ensures.of).refused error refused))
