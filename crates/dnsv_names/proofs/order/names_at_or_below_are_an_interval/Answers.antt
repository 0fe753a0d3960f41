use Rattle.dnsv_names.specs.Tree.TreeLaws.{interval}
use Rattle.dnsv_names.proofs.order.names_at_or_below_are_an_interval.Goals as goal

pub returns : goal.returns
returns c = interval
