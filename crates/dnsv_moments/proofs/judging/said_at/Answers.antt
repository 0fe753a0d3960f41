use Rattle.std.proofs.Common.{ap, sym, ◌∙◌}
use Rattle.dnsv_chain.specs.Basis.{CaseContents, basis_of}
use Rattle.dnsv_moments.proofs.judging.said_at.Goals as goal

pub returns-clause-said : goal.returns-clause-said
returns-clause-said c = λ meaning by begun within.
    let basis = basis_of c.args.moments.now.rrsets c.args.moments.now.anchors c.args.moment meaning in
    c.in_ok-said.ensures basis c.args.name.now c.args.rtype.0 (sym (c.rrsets.ensures.value ∙ c.capture.ensures))
    (c.in-Ok.ensures.derived basis (c.in_ok-deriver.ensures.case meaning by begun within))

pub returns-clause-before : goal.returns-clause-before
returns-clause-before c = ap (λ (case : CaseContents). case.rrsets) c.in-Ok.ensures.same ∙ c.in_ok-deriver.ensures.evidence
