use Rattle.dnsv_names.proofs.OneReading.{one_name, one_fault, name_or_fault}
use Rattle.dnsv_names.proofs.text.parse.a_text_has_one_reading.Goals as goal

pub returns-clause-name : goal.returns-clause-name
returns-clause-name c = one_name

pub returns-clause-fault : goal.returns-clause-fault
returns-clause-fault c = one_fault

pub returns-clause-apart : goal.returns-clause-apart
returns-clause-apart c = name_or_fault
