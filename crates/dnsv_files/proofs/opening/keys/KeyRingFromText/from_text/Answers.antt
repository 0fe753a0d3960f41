use Rattle.dnsv_tsig.specs.KeyFile.{BeginsWithKey, IsKeyFault}
use Rattle.dnsv_tsig.specs.declared.error.KeyFileError.TheVariants.{OutOfMemory}
use Rattle.dnsv_files.specs.Opening.Keys.{TellsKeysError}
use Rattle.dnsv_files.proofs.FileLemmas.Text.{never_told}
use Rattle.dnsv_files.proofs.OpeningLemmas.Keys.{every_keys_fault, wanted_for_keys}
use Rattle.dnsv_files.proofs.opening.keys.KeyRingFromText.from_text.Goals as goal

pub returns-in-Err-clause-every_fault : goal.returns-in-Err-clause-every_fault
returns-in-Err-clause-every_fault c =
    every_keys_fault c.args.text.now c.in-Err.error c.keys_fault.result c.keys_fault.ensures.told c.in-Err.ensures.every_fault

pub returns-in-Ok-clause-every_fault : goal.returns-in-Ok-clause-every_fault
returns-in-Ok-clause-every_fault c =
    never_told (IsKeyFault c.args.text.now) TellsKeysError (BeginsWithKey c.args.text.now) OutOfMemory c.in-Ok.ring c.in-Ok.ring c.in-Ok.ensures.every_fault

pub returns-in-Err-clause-memory : goal.returns-in-Err-clause-memory
returns-in-Err-clause-memory c = wanted_for_keys c.args.text.now c.in-Err.error c.keys_fault.result c.keys_fault.ensures.told c.in-Err.ensures.memory
