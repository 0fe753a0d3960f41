use Rattle.dnsv_files.proofs.FileLemmas.Capture.{capture_refused, whole_wanted}
use Rattle.dnsv_files.proofs.files.capture.add_message.Goals as goal

pub returns-in-Err-clause-refused : goal.returns-in-Err-clause-refused
returns-in-Err-clause-refused c = λ opening frame is.
    capture_refused opening c.args.held.now frame c.args.number c.args.message.now is
    c.in-Err.error c.capture_fault.result c.in-Err.ensures.refused c.capture_fault.ensures.told

pub returns-in-Err-clause-memory : goal.returns-in-Err-clause-memory
returns-in-Err-clause-memory c =
    whole_wanted c.args.held.now c.args.message.now c.args.number c.in-Err.error c.capture_fault.result c.in-Err.ensures.refused c.capture_fault.ensures.told
