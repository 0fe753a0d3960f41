use Rattle.dnsv_names.specs.Tree.TreeLaws.{is_at_or_below_Decides}
use Rattle.dnsv_names.proofs.tree.tree_laws.at_or_below_is_tested.Goals as goal

pub returns : goal.returns
returns c = is_at_or_below_Decides
