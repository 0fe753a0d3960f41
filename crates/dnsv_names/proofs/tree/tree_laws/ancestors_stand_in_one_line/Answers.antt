use Rattle.dnsv_names.specs.Tree.TreeLaws.{ancestors_in_line}
use Rattle.dnsv_names.proofs.tree.tree_laws.ancestors_stand_in_one_line.Goals as goal

pub returns : goal.returns
returns c = ancestors_in_line
