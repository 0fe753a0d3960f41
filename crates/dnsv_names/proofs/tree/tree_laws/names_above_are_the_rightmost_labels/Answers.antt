use Rattle.std.proofs.Common.{◌-◌, length}
use Rattle.dnsv_names.specs.Tree.TreeLaws.{at_or_below_length}
use Rattle.dnsv_names.specs.Tree.AncestorLaws.{rightmost_same, at_or_below_ends}
use Rattle.dnsv_names.proofs.tree.tree_laws.names_above_are_the_rightmost_labels.Goals as goal

pub returns : goal.returns
returns c = λ name above. (λ below. (at_or_below_length name above below, rightmost_same name above below), λ same. at_or_below_ends name above (length name - length above) same.1)
