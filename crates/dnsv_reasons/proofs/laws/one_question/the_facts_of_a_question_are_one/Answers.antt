use Rattle.dnsv_reasons.proofs.lemmas.questions.QuestionLemmas.{one_question}
use Rattle.dnsv_reasons.proofs.laws.one_question.the_facts_of_a_question_are_one.Goals as goal

pub returns : goal.returns
returns c = one_question
