use Rattle.std.proofs.Common.{ℕ, length, take, ap, arith, length-append}
use Rattle.std.proofs.lemmas.List.{length-take}
use Rattle.dnsv_message.specs.Streams.Frames.{octets_of_each}
use Rattle.dnsv_message.proofs.FrameLemmas.{message_open}
use Rattle.dnsv_message.proofs.streams.framing.OpenFrame.take_message.Goals as goal

pub returns-else-count-missing-clause-ok : goal.returns-else-count-missing-clause-ok
returns-else-count-missing-clause-ok c =
    message_open (octets_of_each c.args.out.now.items) c.self.inside.high c.self.inside.announced c.self.inside.message.items
    (take c.min-count.result c.args.octets.now) c.args.self.now c.extend_from_slice.new.self.items
    c.self.view_is c.requires.message c.in_ok-extend_from_slice.ensures.items
    (omega (arith, ap length c.in_ok-extend_from_slice.ensures.items, length-append {A = ℕ}, length-take {A = ℕ}, c.self.inside.message.ok.0, c.if-count-missing.false, c.min-count.ensures))
