use Rattle.dnsv_verdict.proofs.SureLemmas.SomeVerdict.{some_verdict}
use Rattle.dnsv_verdict.proofs.laws.a_question_has_a_verdict.Goals as goal

pub returns : goal.returns
returns c = λ basis name t none. some_verdict basis name t (λ found. none found.0 found.1)
