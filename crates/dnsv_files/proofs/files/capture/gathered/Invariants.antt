use Rattle.dnsv_message.specs.Streams.Frames.{octets_at_each}
use Rattle.dnsv_files.proofs.FileLemmas.Capture.{EvidenceSoFar}
use Rattle.dnsv_files.proofs.files.capture.gathered.Given as goal

abbrev pub invariant-loop-index : goal.invariant-loop-index
invariant-loop-index l = EvidenceSoFar l.opening (octets_at_each l.frames) l.index l.held
