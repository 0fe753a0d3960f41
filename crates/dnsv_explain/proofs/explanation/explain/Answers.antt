use Rattle.std.proofs.lemmas.Result.{err_from_is_err_and}
use Rattle.dnsv_verdict.proofs.ReportLemmas.{no_memory, no_question}
use Rattle.dnsv_chain.specs.Basis.{Basis, basis_of}
use Rattle.dnsv_explain.proofs.explanation.explain.Goals as goal

pub returns-then-not-is_question-clause-refused : goal.returns-then-not-is_question-clause-refused
returns-then-not-is_question-clause-refused g c =
    no_question (basis_of c.args.capture.now.rrsets c.args.anchors.now c.args.moment (g.V.Verifier.meaning c.args.verifier.now)) c.args.name.now c.args.rtype.0
    (λ asked. (let holds = c.is_question.ensures.1 asked in let fails = c.if-not-is_question.true in cc))

pub returns-in_err-explainer-clause-refused : goal.returns-in_err-explainer-clause-refused
returns-in_err-explainer-clause-refused g c =
    let basis : Basis = basis_of c.args.capture.now.rrsets c.args.anchors.now c.args.moment (g.V.Verifier.meaning c.args.verifier.now) in
    let p = err_from_is_err_and c.from_residual.result c.from_residual.ensures.1 in
    rw (p.1, p.2) (no_memory basis c.args.name.now c.args.rtype.0 (c.is_question.ensures.0 c.if-not-is_question.false))

pub returns-clause-report : goal.returns-clause-report
returns-clause-report g c = c.explain.ensures.report _ c.in_ok-explainer.ensures

pub returns-clause-explanation : goal.returns-clause-explanation
returns-clause-explanation g c = c.explain.ensures.explanation _ c.in_ok-explainer.ensures

pub returns-clause-refused : goal.returns-clause-refused
returns-clause-refused g c = c.explain.ensures.refused _ c.in_ok-explainer.ensures
