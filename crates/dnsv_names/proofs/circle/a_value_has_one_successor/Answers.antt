use Rattle.dnsv_names.specs.Circle.CircleLaws.{one_successor}
use Rattle.dnsv_names.proofs.circle.a_value_has_one_successor.Goals as goal

pub returns : goal.returns
returns g c = λ members owner next other first second. one_successor g.met.T.Ord.total next other first second
