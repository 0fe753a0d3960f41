use Rattle.dnsv_moments.proofs.lemmas.validity.MomentLemmas.{alike_at}
use Rattle.dnsv_verdict.proofs.AlikeLemmas.{refusal_to, verdict_of_to, verdict_to}
use Rattle.dnsv_moment_laws.proofs.validity.the_same_signatures_give_the_same_verdict.Goals as goal

pub returns-clause-at_a_name : goal.returns-clause-at_a_name
returns-clause-at_a_name c = λ basis other name t verdict same. verdict_to basis other basis.meaning (alike_at basis other same) name t verdict

pub returns-clause-of_a_question : goal.returns-clause-of_a_question
returns-clause-of_a_question c = λ basis other name t links last verdict same. verdict_of_to basis other basis.meaning (alike_at basis other same) name t links last verdict

pub returns-clause-refused : goal.returns-clause-refused
returns-clause-refused c = λ basis other name t error same. refusal_to basis other basis.meaning (alike_at basis other same) name t error
