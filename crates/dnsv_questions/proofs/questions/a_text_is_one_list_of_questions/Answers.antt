use Rattle.dnsv_questions.proofs.QuestionFileLaws.{AreQuestionsOf-no_fault, AreQuestionsOf-only, IsFaultOf-only, questions_or_fault}
use Rattle.dnsv_questions.proofs.questions.a_text_is_one_list_of_questions.Goals as goal

pub returns-clause-questions : goal.returns-clause-questions
returns-clause-questions c = AreQuestionsOf-only

pub returns-clause-fault : goal.returns-clause-fault
returns-clause-fault c = IsFaultOf-only

pub returns-clause-apart : goal.returns-clause-apart
returns-clause-apart c = AreQuestionsOf-no_fault

pub returns-clause-either : goal.returns-clause-either
returns-clause-either c = questions_or_fault
