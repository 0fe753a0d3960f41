use Rattle.std.proofs.Common.{arith}
use Rattle.dnsv_message.proofs.Numbers.{label_here}
use Rattle.dnsv_message.proofs.name_at.label_step.Goals as goal

pub returns-then-size-length-gt-WIRE_LIMIT-clause-fault : goal.returns-then-size-length-gt-WIRE_LIMIT-clause-fault
returns-then-size-length-gt-WIRE_LIMIT-clause-fault c =
    let found = label_here c.args.octets.now c.args.walk.place c.args.length (λ i. omega (arith, c.type_inv.octets i)) c.requires.octet c.requires.not_root c.requires.small (omega arith) in
    (found.0, found.1, omega (arith, found.2))

pub returns-else-size-length-gt-WIRE_LIMIT-clause-step : goal.returns-else-size-length-gt-WIRE_LIMIT-clause-step
returns-else-size-length-gt-WIRE_LIMIT-clause-step c =
    let found = label_here c.args.octets.now c.args.walk.place c.args.length (λ i. omega (arith, c.type_inv.octets i)) c.requires.octet c.requires.not_root c.requires.small (omega arith) in
    (found.0, found.1, found.2, omega (arith, found.2))
