use Rattle.std.proofs.Common.{◌∙◌, sym, arith}
use Rattle.dnsv_names.proofs.LowerLemmas.{tied_by_test, untied_by_test}
use Rattle.dnsv_message.proofs.FollowLemmas.Comparing.{ended_labels, tied_last, untied_last}
use Rattle.dnsv_message.proofs.name_ref.order_from_the_right.Goals as goal

pub returns-then-ne : goal.returns-then-ne
returns-then-ne c =
    untied_last c.args.a.now c.args.b.now c.loop-passed.passed (omega arith) (omega arith) _ c.loop-passed.invariant c.lower_order-order.result _ _ c.lower_order-order.ensures
    (untied_by_test c.lower_order-order.result c.ne.result c.ne.ensures c.if-ne.true)

pub loop-passed-preserved : goal.loop-passed-preserved
loop-passed-preserved c =
    tied_last c.args.a.now c.args.b.now c.loop-passed.passed (omega arith) (omega arith) _ c.loop-passed.invariant c.lower_order-order.result _ _ c.lower_order-order.ensures
    (tied_by_test c.lower_order-order.result c.ne.result c.ne.ensures c.if-ne.false)

pub returns : goal.returns
returns c = c.cmp.ensures ∙ sym (c.loop-passed.invariant ∙ ended_labels c.args.a.now c.args.b.now c.loop-passed.passed (omega arith))
