use Rattle.dnsv_explain.proofs.explanation.explainer.Explainer.of.Goals as goal

pub returns-clause-contents : goal.returns-clause-contents
returns-clause-contents c = c.in_ok-deriver.ensures.contents

pub returns-clause-basis : goal.returns-clause-basis
returns-clause-basis c = λ basis is. c.in_ok-deriver.ensures.basis basis is
