use Rattle.std.proofs.Common.{flat_map, map, take}
use Rattle.std.specs.List.{AllByRecursion}
use Rattle.sha2.specs.Hashers.{Holds256}
use Rattle.dnsv_message.specs.Streams.Frames.{IsFramed, frame, octets_at_each}
use Rattle.dnsv_answers.proofs.digest.capture_digest.Given as goal

-- the hasher holds the frames of the messages so far
abbrev pub invariant-loop-message : goal.invariant-loop-message
invariant-loop-message l = AllByRecursion IsFramed (octets_at_each l.messages)
    → Holds256 l.hasher (flat_map frame (map (λ message. message.now) (take l.message-index l.messages)))
