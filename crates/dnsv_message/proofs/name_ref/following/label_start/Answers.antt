use Rattle.std.proofs.Common.{arith}
use Rattle.dnsv_message.specs.Following.{labels_at}
use Rattle.dnsv_message.proofs.FollowLemmas.{not_root, rest_of}
use Rattle.dnsv_message.proofs.name_ref.following.label_start.Goals as goal

pub next_label-next-requires-clause-not_root : goal.next_label-next-requires-clause-not_root
next_label-next-requires-clause-not_root c =
    not_root c.args.octets.now c.loop-passed.next c.loop-passed.passed (labels_at c.args.octets.now c.args.place)
    c.loop-passed.invariant.0 c.loop-passed.invariant.1 (omega (arith, c.loop-passed-test.true, c.requires.within))

pub loop-passed-preserved : goal.loop-passed-preserved
loop-passed-preserved c = (
  c.next_label-next.ensures.stands,
  rest_of _ (labels_at c.args.octets.now c.loop-passed.next) (labels_at c.args.octets.now c.next_label-next.result) (labels_at c.args.octets.now c.args.place) c.loop-passed.passed
      c.next_label-next.ensures.labels c.loop-passed.invariant.1,
)
