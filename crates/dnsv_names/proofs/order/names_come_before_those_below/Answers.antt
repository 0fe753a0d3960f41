use Rattle.dnsv_names.specs.Tree.TreeLaws.{before_below}
use Rattle.dnsv_names.proofs.order.names_come_before_those_below.Goals as goal

pub returns : goal.returns
returns c = before_below
