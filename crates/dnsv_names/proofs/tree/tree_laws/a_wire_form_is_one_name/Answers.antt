use Rattle.dnsv_names.specs.Name.WireLaws.{wire-front, lower_case-wire, IsName-lower_case}
use Rattle.dnsv_names.proofs.tree.tree_laws.a_wire_form_is_one_name.Goals as goal

pub returns-clause-one : goal.returns-clause-one
returns-clause-one c = λ a b after_a after_b a_name b_name. wire-front a b after_a after_b a_name.each b_name.each

pub returns-clause-lower : goal.returns-clause-lower
returns-clause-lower c = λ name is_name. lower_case-wire name is_name.each

pub returns-clause-name : goal.returns-clause-name
returns-clause-name c = IsName-lower_case
