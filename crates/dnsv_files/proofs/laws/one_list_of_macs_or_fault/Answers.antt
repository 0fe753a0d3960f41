use Rattle.dnsv_files.proofs.OpeningLemmas.Macs.{macs_or_fault, no_macs_fault, one_list_of_macs, one_macs_fault}
use Rattle.dnsv_files.proofs.laws.one_list_of_macs_or_fault.Goals as goal

pub returns-clause-some : goal.returns-clause-some
returns-clause-some c = λ text.
    let has = c.a_text_has_one_list_of_lines.ensures.some text in macs_or_fault text has.0 has.1

pub returns-clause-macs : goal.returns-clause-macs
returns-clause-macs c = one_list_of_macs

pub returns-clause-fault : goal.returns-clause-fault
returns-clause-fault c = one_macs_fault

pub returns-clause-apart : goal.returns-clause-apart
returns-clause-apart c = no_macs_fault
