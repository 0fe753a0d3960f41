use Rattle.std.proofs.Common.{arith}
use Rattle.dnsv_message.proofs.MessageLaws.{message_found}
use Rattle.dnsv_message.proofs.message.Message.decode_with_tail.Goals as goal

pub returns-clause-every : goal.returns-clause-every
returns-clause-every c =
    message_found c.args.octets.now (λ i. omega (arith, c.type_inv.octets i)) (λ found. found.0) c.read.result c.read.ensures.found c.read.ensures.fault
