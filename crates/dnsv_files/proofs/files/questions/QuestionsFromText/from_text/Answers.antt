use Rattle.std.proofs.Common.{inl}
use Rattle.dnsv_questions.specs.QuestionFile.{IsFaultOf}
use Rattle.dnsv_questions.specs.declared.error.QuestionsError.TheVariants.{OutOfMemory}
use Rattle.dnsv_files.specs.Files.Questions.{TellsQuestionsError}
use Rattle.dnsv_files.proofs.FileLemmas.Questions.{every_questions_fault, wanted_for_questions}
use Rattle.dnsv_files.proofs.FileLemmas.Text.{never_told}
use Rattle.dnsv_files.proofs.files.questions.QuestionsFromText.from_text.Goals as goal

pub returns-in-Err-clause-every_fault : goal.returns-in-Err-clause-every_fault
returns-in-Err-clause-every_fault c =
    every_questions_fault c.args.text.now c.in-Err.error c.questions_fault.result c.questions_fault.ensures.told c.in-Err.ensures.every_fault

pub returns-in-Ok-clause-every_fault : goal.returns-in-Ok-clause-every_fault
returns-in-Ok-clause-every_fault c =
    never_told (IsFaultOf c.args.text.now) TellsQuestionsError ⊥ OutOfMemory c.in-Ok.questions c.in-Ok.questions (λ fault is. inl (c.in-Ok.ensures.every_fault fault is))

pub returns-in-Err-clause-memory : goal.returns-in-Err-clause-memory
returns-in-Err-clause-memory c = wanted_for_questions c.args.text.now c.in-Err.error c.questions_fault.result c.questions_fault.ensures.told c.in-Err.ensures.memory
