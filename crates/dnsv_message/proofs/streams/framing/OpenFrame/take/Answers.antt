use Rattle.std.proofs.lemmas.Result.{err_from_is_err_and}
use Rattle.dnsv_message.specs.Streams.Frames.{octets_of_each}
use Rattle.dnsv_message.proofs.FrameLemmas.{zero_length}
use Rattle.dnsv_message.proofs.streams.framing.OpenFrame.take.Goals as goal

pub returns-in_err-take_length-clause-zero_length :
    goal.returns-in_err-take_length-clause-zero_length
returns-in_err-take_length-clause-zero_length c = λ is_zero.
    let p = err_from_is_err_and c.from_residual.result c.from_residual.ensures.1 in
    zero_length (octets_of_each c.args.out.now.items) c.args.self.now c.args.octets.now c.requires
    (c.in_err-take_length.ensures.zero_length (let is = p.1 in let same = p.2 in cc))
