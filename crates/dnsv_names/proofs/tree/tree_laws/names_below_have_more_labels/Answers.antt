use Rattle.dnsv_names.specs.Tree.TreeLaws.{below_length, below_by_length, at_or_below_cases, below_trans_at, at_trans_below, below_not_above, below_respects}
use Rattle.dnsv_names.proofs.tree.tree_laws.names_below_have_more_labels.Goals as goal

pub returns-clause-longer : goal.returns-clause-longer
returns-clause-longer c = λ name above. (λ below. (below.0, below_length name above below), λ longer. below_by_length name above longer.0 longer.1)

pub returns-clause-cases : goal.returns-clause-cases
returns-clause-cases c = at_or_below_cases

pub returns-clause-below_what_is_at_or_below : goal.returns-clause-below_what_is_at_or_below
returns-clause-below_what_is_at_or_below c = below_trans_at

pub returns-clause-at_or_below_what_is_below : goal.returns-clause-at_or_below_what_is_below
returns-clause-at_or_below_what_is_below c = at_trans_below

pub returns-clause-one_way : goal.returns-clause-one_way
returns-clause-one_way c = below_not_above

pub returns-clause-equal : goal.returns-clause-equal
returns-clause-equal c = below_respects
