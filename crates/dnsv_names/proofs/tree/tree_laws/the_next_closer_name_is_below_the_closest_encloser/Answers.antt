use Rattle.dnsv_names.specs.Tree.AncestorLaws.{rightmost_next_below, above_or_next}
use Rattle.dnsv_names.proofs.tree.tree_laws.the_next_closer_name_is_below_the_closest_encloser.Goals as goal

pub returns-clause-below : goal.returns-clause-below
returns-clause-below c = rightmost_next_below

pub returns-clause-nothing_between : goal.returns-clause-nothing_between
returns-clause-nothing_between c = above_or_next
