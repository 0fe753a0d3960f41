use Rattle.dnsv_names.specs.Circle.CircleLaws.{one_gap}
use Rattle.dnsv_names.proofs.circle.all_else_lies_in_one_gap.Goals as goal

pub returns : goal.returns
returns g c = λ members x owner next other after absent member successor gap other_member other_successor other_gap.
    one_gap g.met.T.Ord.total owner next other after member other_member successor other_successor gap other_gap absent
