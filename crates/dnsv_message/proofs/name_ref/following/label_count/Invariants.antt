use Rattle.std.proofs.Common.{◌≡◌, ◌+◌, length}
use Rattle.dnsv_message.specs.Following.{StandsAt, labels_at}
use Rattle.dnsv_message.proofs.name_ref.following.label_count.Given as goal

-- what stands at the place are the labels that are not counted yet
abbrev pub invariant-loop-next : goal.invariant-loop-next
invariant-loop-next l =
    StandsAt l.octets l.next × (length (labels_at l.octets l.place) ≡ l.count + length (labels_at l.octets l.next))

abbrev pub decreases-loop-next : goal.decreases-loop-next
decreases-loop-next l = length (labels_at l.octets l.next)
