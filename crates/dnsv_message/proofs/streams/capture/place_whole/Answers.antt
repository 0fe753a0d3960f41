use Rattle.std.proofs.Common.{ap}
use Rattle.std.proofs.lemmas.Result.{err_from_is_err_and}
use Rattle.dnsv_message.specs.Streams.Frames.{octets_at_each, octets_of_each}
use Rattle.dnsv_message.proofs.FrameLemmas.FramerLemmas.{Feeds-onto}
use Rattle.dnsv_message.proofs.streams.capture.place_whole.Goals as goal

pub returns-in_err-feed-clause-zero_length : goal.returns-in_err-feed-clause-zero_length
returns-in_err-feed-clause-zero_length c = λ is_zero.
    let p = err_from_is_err_and c.from_residual.result c.from_residual.ensures.1 in
    Feeds-onto _ _ _ _ _ (octets_at_each c.args.out.now.items) (ap octets_of_each c.new-whole.ensures.items)
    (c.in_err-feed.ensures.zero_length (let is = p.1 in let same = p.2 in cc))
