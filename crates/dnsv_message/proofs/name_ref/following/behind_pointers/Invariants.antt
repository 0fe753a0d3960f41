use Rattle.std.proofs.Common.{◌≡◌}
use Rattle.dnsv_message.specs.Following.{IsNamed, labels_at}
use Rattle.dnsv_message.proofs.name_ref.following.behind_pointers.Given as goal

-- the same name stands at the place
abbrev pub invariant-loop-next : goal.invariant-loop-next
invariant-loop-next l = IsNamed l.octets l.next × (labels_at l.octets l.next ≡ labels_at l.octets l.place)

abbrev pub decreases-loop-next : goal.decreases-loop-next
decreases-loop-next l = l.next
