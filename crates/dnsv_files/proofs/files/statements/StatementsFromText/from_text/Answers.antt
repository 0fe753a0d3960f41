use Rattle.dnsv_statements.specs.Statements.{BeginsWithStatement, IsFaultOf}
use Rattle.dnsv_statements.specs.declared.statements.StatementsError.TheVariants.{OutOfMemory}
use Rattle.dnsv_files.specs.Files.Statements.{TellsStatementsError}
use Rattle.dnsv_files.proofs.FileLemmas.Statements.{every_statements_fault, wanted_for_statements}
use Rattle.dnsv_files.proofs.FileLemmas.Text.{never_told}
use Rattle.dnsv_files.proofs.files.statements.StatementsFromText.from_text.Goals as goal

pub returns-in-Err-clause-every_fault : goal.returns-in-Err-clause-every_fault
returns-in-Err-clause-every_fault c =
    every_statements_fault c.args.text.now c.in-Err.error c.statements_fault.result c.statements_fault.ensures.told c.in-Err.ensures.every_fault

pub returns-in-Ok-clause-every_fault : goal.returns-in-Ok-clause-every_fault
returns-in-Ok-clause-every_fault c =
    never_told (IsFaultOf c.args.text.now) TellsStatementsError (BeginsWithStatement c.args.text.now) OutOfMemory c.in-Ok.statements c.in-Ok.statements c.in-Ok.ensures.every_fault

pub returns-in-Err-clause-memory : goal.returns-in-Err-clause-memory
returns-in-Err-clause-memory c = wanted_for_statements c.args.text.now c.in-Err.error c.statements_fault.result c.statements_fault.ensures.told c.in-Err.ensures.memory
