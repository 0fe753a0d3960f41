use Rattle.dnsv_lines.specs.declared.line.denial.Role.TheVariants as role
use Rattle.dnsv_rules.proofs.needs.PartLemmas.{never_matched}
use Rattle.dnsv_rules.proofs.laws.a_part_that_matches_denies_the_type.Goals as goal

pub returns-clause-name : goal.returns-clause-name
returns-clause-name c = λ setting asked lines part number checks there matched is_role is_by holds.
    never_matched setting asked lines checks part number there is_by holds role.Name (λ denied by. by) is_role matched

pub returns-clause-wildcard : goal.returns-clause-wildcard
returns-clause-wildcard c = λ setting asked lines part number checks there matched is_role is_by holds.
    never_matched setting asked lines checks part number there is_by holds role.Wildcard (λ denied by. by) is_role matched
