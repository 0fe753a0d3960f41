use Rattle.dnsv_names.specs.Tree.AncestorLaws.{rightmost_length, rightmost_rightmost, rightmost_none, rightmost_all, rightmost_parent, rightmost_more, IsName-rightmost, rightmost_above, rightmost_respects}
use Rattle.dnsv_names.proofs.tree.tree_laws.rightmost_labels_are_ancestors.Goals as goal

pub returns-clause-length : goal.returns-clause-length
returns-clause-length c = rightmost_length

pub returns-clause-part : goal.returns-clause-part
returns-clause-part c = rightmost_rightmost

pub returns-clause-none : goal.returns-clause-none
returns-clause-none c = rightmost_none

pub returns-clause-all : goal.returns-clause-all
returns-clause-all c = rightmost_all

pub returns-clause-parent : goal.returns-clause-parent
returns-clause-parent c = rightmost_parent

pub returns-clause-one_more : goal.returns-clause-one_more
returns-clause-one_more c = rightmost_more

pub returns-clause-name : goal.returns-clause-name
returns-clause-name c = IsName-rightmost

pub returns-clause-above : goal.returns-clause-above
returns-clause-above c = rightmost_above

pub returns-clause-equal : goal.returns-clause-equal
returns-clause-equal c = rightmost_respects
