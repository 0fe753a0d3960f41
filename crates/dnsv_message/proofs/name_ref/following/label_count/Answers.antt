use Rattle.std.proofs.Common.{length, ap, arith}
use Rattle.dnsv_message.proofs.FollowLemmas.{at_most_127, has_root}
use Rattle.dnsv_message.proofs.name_ref.following.label_count.Goals as goal

pub overflow_add-count : goal.overflow_add-count
overflow_add-count c =
    omega (arith, at_most_127 c.args.octets.now c.args.place c.requires.named, c.loop-next.invariant.1, ap length c.next_label-next.ensures.labels)

pub returns : goal.returns
returns c =
    omega (arith, c.loop-next.invariant.1, ap length (has_root c.args.octets.now c.loop-next.next c.loop-next.invariant.0.named (omega (arith, c.loop-next-test.false))).none)
