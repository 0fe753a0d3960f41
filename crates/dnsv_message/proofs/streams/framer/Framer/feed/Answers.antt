use Rattle.std.proofs.Common.{ap}
use Rattle.std.proofs.lemmas.Result.{on_ok_weaker}
use Rattle.dnsv_message.specs.Streams.Frames.{octets_of_each}
use Rattle.dnsv_message.proofs.FrameLemmas.FramerLemmas.{Feeds-failed}
use Rattle.dnsv_message.proofs.streams.framer.Framer.feed.Goals as goal

pub returns-in-Some-clause-zero_length : goal.returns-in-Some-clause-zero_length
returns-in-Some-clause-zero_length c = λ is_zero.
    Feeds-failed c.args.self.now.rest c.args.piece.now c.self.inside.failed c.self.inside.frame (octets_of_each c.args.out.now.items)
    (ap (λ framing. framing.rest) c.self.view_is) (let same = c.in-Some.is in cc)

pub returns-in_default-fed-clause-not_zero : goal.returns-in_default-fed-clause-not_zero
returns-in_default-fed-clause-not_zero c = on_ok_weaker c.feed-fed.result (λ not_zero. rw c.in_default.is not_zero) c.feed-fed.ensures.not_zero
