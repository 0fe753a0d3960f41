use Rattle.dnsv_lines.specs.declared.line.Line.TheVariants as line
use Rattle.dnsv_rules.proofs.needs.NameLemmas.{strange_above, strange_name, strange_wildcard}
use Rattle.dnsv_rules.proofs.laws.a_text_of_strange_names_does_not_check.Goals as goal

pub returns-clause-case : goal.returns-clause-case
returns-clause-case c = λ setting asked lines cut there strange checks. strange (checks.is_so (line.Case cut) there)

pub returns-clause-part : goal.returns-clause-part
returns-clause-part c = λ setting asked lines part there other none checks.
    strange_above setting asked lines checks part there other none

pub returns-clause-name : goal.returns-clause-name
returns-clause-name c = λ setting asked lines part there is none checks. strange_name setting asked lines checks part there is none

pub returns-clause-wildcard : goal.returns-clause-wildcard
returns-clause-wildcard c = λ setting asked lines part there is none checks.
    strange_wildcard setting asked lines checks part there is none
