use Rattle.dnsv_names.specs.Tree.AncestorLaws.{wildcard_below, IsName-wildcard, wildcard_no_longer, wildcard_respects, wildcards_same}
use Rattle.dnsv_names.proofs.tree.tree_laws.wildcards_stand_right_below.Goals as goal

pub returns-clause-below : goal.returns-clause-below
returns-clause-below c = wildcard_below

pub returns-clause-name : goal.returns-clause-name
returns-clause-name c = IsName-wildcard

pub returns-clause-no_longer : goal.returns-clause-no_longer
returns-clause-no_longer c = λ label name is_name. wildcard_no_longer label name is_name.each.0

pub returns-clause-equal : goal.returns-clause-equal
returns-clause-equal c = λ a b. (wildcards_same a b, wildcard_respects a b)
