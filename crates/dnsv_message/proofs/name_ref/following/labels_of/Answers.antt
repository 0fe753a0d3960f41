use Rattle.std.proofs.Common.{◌++◌, ◌∙◌, sym, ap, map, arith}
use Rattle.std.proofs.lemmas.List.{append-nil, length-map}
use Rattle.dnsv_message.proofs.FollowLemmas.{has_root, room_for_label}
use Rattle.dnsv_message.proofs.name_ref.following.labels_of.Goals as goal

pub push-requires : goal.push-requires
push-requires c = (
  omega arith,
  room_for_label c.args.octets.now c.args.place c.loop-next.next _ (map (λ label. label.now) c.loop-next.labels.items) c.requires.named
      c.loop-next.invariant.0 (omega (arith, c.loop-next-test.true)) c.loop-next.invariant.1 (length-map c.loop-next.labels.items (λ label. label.now)),
)

pub returns : goal.returns
returns c =
    let kept = map (λ label. label.now) c.loop-next.labels.items in
    sym (c.loop-next.invariant.1
    ∙ ap (λ labels. kept ++ labels) (has_root c.args.octets.now c.loop-next.next c.loop-next.invariant.0.named (omega (arith, c.loop-next-test.false))).none
    ∙ append-nil kept)
