use Rattle.dnsv_zones.proofs.lemmas.zones.AnswerLemmas.{has_answer}
use Rattle.dnsv_zones.proofs.lemmas.zones.LookupLemmas.{one_answer}
use Rattle.dnsv_zones.proofs.lookup.a_question_has_one_answer.Goals as goal

pub returns-clause-some : goal.returns-clause-some
returns-clause-some c = λ zone name t well. let some = has_answer zone name t well in (some.answer, some.is_lookup)

pub returns-clause-one : goal.returns-clause-one
returns-clause-one c = one_answer
