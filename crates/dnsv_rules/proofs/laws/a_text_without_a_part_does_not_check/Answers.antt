use Rattle.dnsv_rules.proofs.needs.PartLemmas.{needs_encloser, needs_its_name, needs_next_closer, needs_wildcard}
use Rattle.dnsv_rules.proofs.laws.a_text_without_a_part_does_not_check.Goals as goal

pub returns-clause-encloser : goal.returns-clause-encloser
returns-clause-encloser c = λ setting asked lines proof encloser there needs is none checks.
    needs_encloser setting asked lines proof checks there needs encloser is none

pub returns-clause-unnamed : goal.returns-clause-unnamed
returns-clause-unnamed c = λ setting asked lines proof there needs is checks.
    needs_its_name setting asked lines proof checks there needs is

pub returns-clause-next_closer : goal.returns-clause-next_closer
returns-clause-next_closer c = λ setting asked lines proof encloser there needs is none checks.
    needs_next_closer setting asked lines proof checks there needs encloser is none

pub returns-clause-wildcard : goal.returns-clause-wildcard
returns-clause-wildcard c = λ setting asked lines proof encloser there form is none checks.
    needs_wildcard setting asked lines proof checks there form encloser is none
