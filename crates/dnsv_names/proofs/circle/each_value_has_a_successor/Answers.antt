use Rattle.dnsv_names.specs.Circle.CircleLaws.{successor_among}
use Rattle.dnsv_names.proofs.circle.each_value_has_a_successor.Goals as goal

pub returns : goal.returns
returns g c = successor_among g.met.T.Ord.total
