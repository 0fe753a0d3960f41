use Rattle.std.specs.Prelude.{string_bytes}
use Rattle.dnsv_message.specs.Streams.Frames.{octets_at_each}
use Rattle.dnsv_work.proofs.WorkLemmas.Showing.{ShownSoFar}
use Rattle.dnsv_work.proofs.showing.messages_of_frames.Given as goal

abbrev pub invariant-loop-index : goal.invariant-loop-index
invariant-loop-index l = ShownSoFar (octets_at_each l.frames) l.index (string_bytes l.text)
