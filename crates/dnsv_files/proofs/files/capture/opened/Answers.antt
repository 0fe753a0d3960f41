use Rattle.dnsv_files.proofs.OpeningLemmas.Frames.{not_opened}
use Rattle.dnsv_files.proofs.files.capture.opened.Goals as goal

pub returns-in-Err-clause-refused : goal.returns-in-Err-clause-refused
returns-in-Err-clause-refused c = not_opened c.args.number _ _ _ _ c.in-Err.error _ c.in-Err.ensures c.tsig_fault.ensures.told
