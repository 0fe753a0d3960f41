use Rattle.dnsv_names.specs.Order.{from_the_right}
use Rattle.dnsv_names.specs.Tree.TreeLaws.{from_the_right_below, at_or_below_begins}
use Rattle.dnsv_names.proofs.order.names_at_or_below_begin_alike.Goals as goal

pub returns : goal.returns
returns c = λ name above. (
  λ below. (from_the_right below.0, from_the_right_below name below.0 above below.1),
  λ begins. at_or_below_begins name above begins.0 begins.1,
)
