use Rattle.std.proofs.Common.{◌≡◌, drop}
use Rattle.dnsv_message.specs.Following.{StandsAt, labels_at}
use Rattle.dnsv_message.proofs.name_ref.following.label_start.Given as goal

-- what stands at the place are the labels that are not passed yet
abbrev pub invariant-loop-passed : goal.invariant-loop-passed
invariant-loop-passed l =
    StandsAt l.octets l.next × (labels_at l.octets l.next ≡ drop l.passed (labels_at l.octets l.place))
