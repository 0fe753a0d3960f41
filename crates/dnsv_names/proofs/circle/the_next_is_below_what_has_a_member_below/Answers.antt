use Rattle.dnsv_names.specs.Circle.NameCircleLaws.{next_at_or_below}
use Rattle.dnsv_names.proofs.circle.the_next_is_below_what_has_a_member_below.Goals as goal

pub returns : goal.returns
returns c = λ members owner next name member successor is_member. next_at_or_below owner next name member (successor.none_between member is_member)
