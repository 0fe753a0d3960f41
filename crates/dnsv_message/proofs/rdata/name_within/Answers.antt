use Rattle.std.proofs.Common.{arith}
use Rattle.dnsv_message.proofs.RdataLemmas.{faulty_name, name_past_limit, no_wire_form}
use Rattle.dnsv_message.proofs.rdata.name_within.Goals as goal

pub returns-in_err-name : goal.returns-in_err-name
returns-in_err-name c =
    rw c.from_residual.ensures (faulty_name c.args.octets.now (λ i. omega (arith, c.type_inv.octets i)) c.args.limit c.args.pointers c.args.place
    c.name_at.result c.ok.result c.ok.ensures.value c.in_err-name.was c.name_at.ensures.fault)

pub returns-in_err-name-2 : goal.returns-in_err-name-2
returns-in_err-name-2 c =
    rw c.from_residual-in_err-name-2.ensures (no_wire_form c.args.octets.now c.args.limit c.args.pointers c.args.place
    c.read.result c.if-pointers.false c.in_err-name-2.was c.read.ensures.every)

pub returns-then-limit-end : goal.returns-then-limit-end
returns-then-limit-end c =
    name_past_limit c.args.octets.now (λ i. omega (arith, c.type_inv.octets i)) c.args.limit c.args.pointers c.args.place
    c.name_at.result c.ok.result _ c.ok.ensures.value c.in_ok-name.was c.name_at.ensures.found c.if-limit-end.true
