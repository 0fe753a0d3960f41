use Rattle.dnsv_true_reasons.proofs.untrusted.EndsTold.{explained, none_unanchored}
use Rattle.dnsv_true_reasons.proofs.ends.untrusted_signers_have_a_reason.Goals as goal

pub returns-clause-explained : goal.returns-clause-explained
returns-clause-explained c = λ a lines formed fails untrusted there. explained a lines fails untrusted there formed

pub returns-clause-none : goal.returns-clause-none
returns-clause-none c = λ a lines none fails untrusted there. none_unanchored a lines fails untrusted there none
