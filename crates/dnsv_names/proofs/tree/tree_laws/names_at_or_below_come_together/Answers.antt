use Rattle.dnsv_names.specs.Tree.TreeLaws.{same_or_before, behind_all}
use Rattle.dnsv_names.proofs.tree.tree_laws.names_at_or_below_come_together.Goals as goal

pub returns-clause-first : goal.returns-clause-first
returns-clause-first c = same_or_before

pub returns-clause-behind : goal.returns-clause-behind
returns-clause-behind c = behind_all
