use Rattle.std.proofs.Common.{◌-◌, ◌∙◌, sym, ap, arith, drop, false}
use Rattle.std.specs.Bool.{one_answer}
use Rattle.std.specs.Ordering.{is_eq}
use Rattle.dnsv_names.specs.Octets.{octets_cmp}
use Rattle.dnsv_names.specs.Tree.AncestorLaws.{at_or_below_ends, ends_at_or_below}
use Rattle.dnsv_names.specs.Tree.TreeLaws.{at_or_below_length, is_at_or_below_Decides}
use Rattle.dnsv_message.proofs.FollowLemmas.Comparing.{lower_wire, wire_ties}
use Rattle.dnsv_message.proofs.name_ref.NameRef.is_at_or_below.Goals as goal

pub returns-then-kept-count-clause-test : goal.returns-then-kept-count-clause-test
returns-then-kept-count-clause-test c =
    one_answer false _
    (λ yes. absurd (cc), λ below. absurd (omega (arith, at_or_below_length c.args.self.now c.args.above.now below, c.labels-count.ensures.count, c.labels-kept.ensures.count, c.if-kept-count.true)))
    (is_at_or_below_Decides c.args.self.now c.args.above.now)

pub returns-clause-at_or_below : goal.returns-clause-at_or_below
returns-clause-at_or_below c =
    let k = c.labels-count.result - c.labels-kept.result in
    let left = c.label_start-place.ensures.labels ∙ ap (drop k) c.self.view_is in
    let test = c.is_eq.ensures ∙ ap is_eq (c.wire_order.ensures ∙ (λ i. octets_cmp (lower_wire (left i)) (lower_wire (c.above.view_is i)))) in
    let ties = wire_ties (drop k c.args.self.now) c.args.above.now in (
      λ yes. at_or_below_ends c.args.self.now c.args.above.now k (ties.0 (sym test ∙ yes)),
      λ below. test ∙ ties.1 (ends_at_or_below c.args.self.now c.args.above.now k (omega (arith, c.labels-count.ensures.count, c.labels-kept.ensures.count)) below),
    )

pub returns-clause-test : goal.returns-clause-test
returns-clause-test c = one_answer _ _ (returns-clause-at_or_below c) (is_at_or_below_Decides c.args.self.now c.args.above.now)
