use Rattle.dnsv_names.specs.Tree.TreeLaws.{at_itself, at_or_below_trans, at_or_below_antisymm, at_or_below_root, at_or_below_respects}
use Rattle.dnsv_names.proofs.tree.tree_laws.names_form_a_tree.Goals as goal

pub returns-clause-itself : goal.returns-clause-itself
returns-clause-itself c = at_itself

pub returns-clause-through : goal.returns-clause-through
returns-clause-through c = at_or_below_trans

pub returns-clause-both_ways : goal.returns-clause-both_ways
returns-clause-both_ways c = at_or_below_antisymm

pub returns-clause-root : goal.returns-clause-root
returns-clause-root c = at_or_below_root

pub returns-clause-equal : goal.returns-clause-equal
returns-clause-equal c = at_or_below_respects
