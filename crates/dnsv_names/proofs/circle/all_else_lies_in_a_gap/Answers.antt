use Rattle.dnsv_names.specs.Circle.CircleLaws.{lies_in_a_gap_among}
use Rattle.dnsv_names.proofs.circle.all_else_lies_in_a_gap.Goals as goal

pub returns : goal.returns
returns g c = lies_in_a_gap_among g.met.T.Ord.total
