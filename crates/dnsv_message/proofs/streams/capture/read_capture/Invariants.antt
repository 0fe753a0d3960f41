use Rattle.std.proofs.Common.{◌≡◌, ◌<◌, ◌≤◌, length, None}
use Rattle.dnsv_message.specs.Streams.Frames.{IsZero, octets_at_each}
use Rattle.dnsv_message.proofs.FrameLemmas.CaptureLemmas.{HasRead}
use Rattle.dnsv_message.proofs.streams.capture.read_capture.Given as goal

-- nothing failed, and what was read is the messages and what has come of a frame
abbrev pub invariant-loop-framer : goal.invariant-loop-framer
invariant-loop-framer g l = record {
  room : 0 < length l.piece;
  piece : length l.piece ≤ 4096;
  none_failed : l.reader.failures ≡ l.fn.reader.failures;
  read : HasRead (g.R.Read.remaining l.fn.reader.inner) (g.R.Read.remaining l.reader.inner) (octets_at_each l.messages.items) l.framer.rest l.left;
  no_fault : l.framer.fault ≡ None;
  not_zero : ¬ IsZero l.framer.rest;
}

abbrev pub decreases-loop-framer : goal.decreases-loop-framer
decreases-loop-framer g l = l.left
