use Rattle.dnsv_files.proofs.OpeningLemmas.Frames.{not_read}
use Rattle.dnsv_files.proofs.files.capture.decoded.Goals as goal

pub returns-in-Err-clause-refused : goal.returns-in-Err-clause-refused
returns-in-Err-clause-refused c = not_read c.args.number c.args.octets.now c.in-Err.error _ c.in-Err.ensures.fault c.decode_fault.ensures.told
