use Rattle.dnsv_names.specs.Tree.AncestorLaws.{same_wire_length}
use Rattle.dnsv_names.proofs.tree.tree_laws.equal_names_have_equal_sizes.Goals as goal

pub returns-clause-octets : goal.returns-clause-octets
returns-clause-octets c = same_wire_length
