use Rattle.dnsv_verdict.proofs.CaseLemmas.{one_verdict}
use Rattle.dnsv_verdict.proofs.laws.a_question_has_one_verdict.Goals as goal

pub returns : goal.returns
returns c = one_verdict
