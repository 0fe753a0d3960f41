use Rattle.std.proofs.Common.{arith}
use Rattle.dnsv_message.proofs.RdataLemmas.{no_wire_form}
use Rattle.dnsv_message.proofs.FollowLemmas.RdataFollowed.{no_name_at_fault, no_name_past}
use Rattle.dnsv_message.proofs.rdata_ref.end_within.Goals as goal

pub returns-in_default : goal.returns-in_default
returns-in_default c =
    no_name_at_fault c.args.octets.now (λ i. omega (arith, c.type_inv.octets i)) c.args.limit c.args.pointers c.args.place c.in_default.field-0 c.in_default.ensures.fault

pub returns-then-limit-end : goal.returns-then-limit-end
returns-then-limit-end c =
    no_name_past c.args.octets.now (λ i. omega (arith, c.type_inv.octets i)) c.args.limit c.args.pointers c.args.place c.in-Ok.ensures.found.0 c.in-Ok.end c.in-Ok.ensures.found.1 c.if-limit-end.true

pub returns-in_err-length : goal.returns-in_err-length
returns-in_err-length c =
    rw c.from_residual.ensures (no_wire_form c.args.octets.now c.args.limit c.args.pointers c.args.place
    c.read.result c.if-pointers.false c.in_err-length.was c.read.ensures.every)
