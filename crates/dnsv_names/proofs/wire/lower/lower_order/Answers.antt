use Rattle.std.proofs.Common.{◌∙◌, sym, arith}
use Rattle.dnsv_names.proofs.LowerLemmas.{ended, tied_here, untied_here, tied_by_test, untied_by_test}
use Rattle.dnsv_names.proofs.wire.lower.lower_order.Goals as goal

pub returns-then-ne : goal.returns-then-ne
returns-then-ne c =
    untied_here c.args.a.now c.args.b.now c.loop-i.i (omega arith) (omega arith) c.loop-i.invariant c.octet_order-order.result c.octet_order-order.ensures
    (untied_by_test c.octet_order-order.result c.ne.result c.ne.ensures c.if-ne.true)

pub loop-i-preserved : goal.loop-i-preserved
loop-i-preserved c =
    tied_here c.args.a.now c.args.b.now c.loop-i.i (omega arith) (omega arith) c.loop-i.invariant c.octet_order-order.result c.octet_order-order.ensures
    (tied_by_test c.octet_order-order.result c.ne.result c.ne.ensures c.if-ne.false)

pub returns : goal.returns
returns c = c.cmp.ensures ∙ sym (c.loop-i.invariant ∙ ended c.args.a.now c.args.b.now c.loop-i.i (omega arith))
