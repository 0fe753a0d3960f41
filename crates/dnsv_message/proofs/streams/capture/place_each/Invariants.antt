use Rattle.std.proofs.Common.{◌≡◌, ◌++◌, take}
use Rattle.dnsv_message.specs.Streams.Frames.{octets_at_each, octets_of_each}
use Rattle.dnsv_message.proofs.streams.capture.place_each.Given as goal

-- some messages are placed
abbrev pub invariant-loop-message : goal.invariant-loop-message
invariant-loop-message l = octets_at_each l.out.items ≡ octets_at_each l.fn.out.items ++ octets_of_each (take l.message-index l.messages)
