use Rattle.dnsv_names.specs.Circle.NameCircleLaws.{owner_at_or_below}
use Rattle.dnsv_names.proofs.circle.the_owner_is_below_each_member_above.Goals as goal

pub returns : goal.returns
returns c = λ members owner next name member successor is_member. owner_at_or_below owner next name member (successor.none_between member is_member)
