use Rattle.dnsv_rules.proofs.truth.TrueLemmas.{proof_true}
use Rattle.dnsv_rules.proofs.laws.a_text_that_checks_is_true.Goals as goal

pub returns : goal.returns
returns c = proof_true
