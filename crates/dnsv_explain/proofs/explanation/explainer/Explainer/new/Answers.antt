use Rattle.dnsv_chain.specs.Basis.{basis_of}
use Rattle.dnsv_explain.proofs.explanation.explainer.Explainer.new.Goals as goal

pub of-requires : goal.of-requires
of-requires g c = (
  basis_of c.args.capture.now.rrsets c.args.anchors.now c.args.moment (g.V.Verifier.meaning c.args.verifier.now),
  c.in_ok-case.ensures.of,
)

pub returns : goal.returns
returns g c = c.of.ensures.basis _ c.in_ok-case.ensures.of
