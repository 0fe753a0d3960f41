use Rattle.std.proofs.Common.{inl}
use Rattle.dnsv_answers.specs.AnswerFile.{IsFaultOf}
use Rattle.dnsv_answers.specs.declared.error.AnswersError.TheVariants.{OutOfMemory}
use Rattle.dnsv_files.specs.Files.Answers.{TellsAnswersError}
use Rattle.dnsv_files.proofs.FileLemmas.Answers.{every_answers_fault, refused_for, wanted_for_answers}
use Rattle.dnsv_files.proofs.FileLemmas.Text.{never_told}
use Rattle.dnsv_files.proofs.files.answers.AnswersFromText.from_text.Goals as goal

pub returns-in-Err-clause-every_fault : goal.returns-in-Err-clause-every_fault
returns-in-Err-clause-every_fault c =
    every_answers_fault c.args.text.now c.in-Err.error c.answers_fault.result c.answers_fault.ensures.told c.in-Err.ensures.every_fault

pub returns-in-Ok-clause-every_fault : goal.returns-in-Ok-clause-every_fault
returns-in-Ok-clause-every_fault c =
    never_told (IsFaultOf c.args.text.now) TellsAnswersError ⊥ OutOfMemory c.in-Ok.answers c.in-Ok.answers
    (λ first bad. inl (c.in-Ok.ensures.every_fault first bad))

pub returns-in-Err-clause-memory : goal.returns-in-Err-clause-memory
returns-in-Err-clause-memory c = wanted_for_answers c.args.text.now c.in-Err.error c.answers_fault.result c.answers_fault.ensures.told c.in-Err.ensures.memory

pub returns-in-Err-clause-fault : goal.returns-in-Err-clause-fault
returns-in-Err-clause-fault c = refused_for (IsFaultOf c.args.text.now) c.in-Err.error c.answers_fault.result c.answers_fault.ensures.told c.in-Err.ensures.fault
