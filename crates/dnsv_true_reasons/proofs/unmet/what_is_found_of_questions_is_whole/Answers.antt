use Rattle.dnsv_true_reasons.proofs.Whole.{question_in_place, whole_question}
use Rattle.dnsv_true_reasons.proofs.unmet.what_is_found_of_questions_is_whole.Goals as goal

pub returns-clause-is_whole : goal.returns-clause-is_whole
returns-clause-is_whole c = λ a zones q of_zones of_q. whole_question a zones of_zones q of_q

pub returns-clause-in_place : goal.returns-clause-in_place
returns-clause-in_place c = λ a zones q of_zones of_q. question_in_place a zones of_zones q of_q
