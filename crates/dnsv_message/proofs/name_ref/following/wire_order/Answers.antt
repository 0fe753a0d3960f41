use Rattle.std.proofs.Common.{◌∙◌, sym, map, arith}
use Rattle.std.specs.Char.{to_ascii_lowercase}
use Rattle.dnsv_names.specs.Octets.{octets_cmp}
use Rattle.dnsv_names.proofs.LowerLemmas.{tied_by_test, untied_by_test}
use Rattle.dnsv_message.proofs.FollowLemmas.Comparing.{octets_decide, tied_labels, untied_labels}
use Rattle.dnsv_message.proofs.name_ref.following.wire_order.Goals.{then-loop-a_place-test+else-a-a_place, else-loop-a_place-test}
use Rattle.dnsv_message.proofs.name_ref.following.wire_order.Goals as goal

pub returns-then-ne : goal.returns-then-ne
returns-then-ne c =
    untied_labels c.args.a.now c.args.b.now c.loop-a_place.a_place c.loop-a_place.b_place c.loop-a_place.invariant.first c.loop-a_place.invariant.second
    (omega (arith, c.loop-a_place-test.true)) (omega (arith, c.if-a-a_place.true)) c.lower_order-order.result
    (c.lower_order-order.ensures ∙ (λ i. octets_cmp (map to_ascii_lowercase (c.label.ensures i)) (map to_ascii_lowercase (c.label-in-loop-a_place.ensures i))))
    _ c.loop-a_place.invariant.so_far (untied_by_test c.lower_order-order.result c.ne.result c.ne.ensures c.if-ne.true)

pub loop-a_place-preserved : goal.loop-a_place-preserved
loop-a_place-preserved c = record {
  first = c.next_label-a_place.ensures.stands;
  second = c.next_label-b_place.ensures.stands;
  so_far = tied_labels c.args.a.now c.args.b.now c.loop-a_place.a_place c.loop-a_place.b_place c.loop-a_place.invariant.first c.loop-a_place.invariant.second
      (omega (arith, c.loop-a_place-test.true)) (omega (arith, c.if-a-a_place.true)) c.lower_order-order.result
      (c.lower_order-order.ensures ∙ (λ i. octets_cmp (map to_ascii_lowercase (c.label.ensures i)) (map to_ascii_lowercase (c.label-in-loop-a_place.ensures i))))
      _ c.loop-a_place.invariant.so_far _ _ c.next_label-a_place.ensures.labels c.next_label-b_place.ensures.labels
      (tied_by_test c.lower_order-order.result c.ne.result c.ne.ensures c.if-ne.false);
}

pub returns : goal.returns
returns c =
    octets_decide c.args.a.now c.args.b.now c.loop-a_place.a_place c.loop-a_place.b_place c.cmp.result c.loop-a_place.invariant.first c.loop-a_place.invariant.second
    (λ same. elim c.loop-a_place-test.branch [
      | then-loop-a_place-test+else-a-a_place w ↦ absurd (omega (arith, same, w.if-a-a_place.false))
      | else-loop-a_place-test w ↦ omega (arith, w.loop-a_place-test.false)
    ]) c.cmp.ensures
    ∙ sym c.loop-a_place.invariant.so_far
