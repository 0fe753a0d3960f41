use Rattle.dnsv_answers.proofs.AnswerLaws.{AreAnswersOf-no_fault, AreAnswersOf-only, IsFaultOf-only, answers_or_first_fault}
use Rattle.dnsv_answers.proofs.answers.a_text_is_one_list_of_answers.Goals as goal

pub returns-clause-answers : goal.returns-clause-answers
returns-clause-answers c = AreAnswersOf-only

pub returns-clause-fault : goal.returns-clause-fault
returns-clause-fault c = IsFaultOf-only

pub returns-clause-apart : goal.returns-clause-apart
returns-clause-apart c = AreAnswersOf-no_fault

pub returns-clause-either : goal.returns-clause-either
returns-clause-either c = answers_or_first_fault
