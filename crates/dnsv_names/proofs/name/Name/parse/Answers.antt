use Rattle.std.proofs.Common.{ap, ◌∙◌, Ok, Err}
use Rattle.std.proofs.lemmas.Result.{err_from_is_err_and}
use Rattle.dnsv_names.proofs.OneReading.{one_name, one_fault, name_or_fault}
use Rattle.dnsv_names.proofs.TextLemmas.{text_of_spells}
use Rattle.dnsv_names.proofs.name.Name.parse.Goals as goal

pub returns-clause-every : goal.returns-clause-every
returns-clause-every c = λ labels name spelled. ap Ok (one_name _ _ _ c.in_ok-octets.ensures.name.0.name name c.in_ok-octets.ensures.name.1 spelled)

pub returns-in_err-octets-clause-every : goal.returns-in_err-octets-clause-every
returns-in_err-octets-clause-every c = λ labels name spelled. absurd (name_or_fault _ _ _ name spelled c.in_err-octets.ensures.fault)

pub returns-clause-written : goal.returns-clause-written
returns-clause-written c = λ labels name written. returns-clause-every c labels name (rw written (text_of_spells labels name))

pub returns-in_err-octets-clause-written : goal.returns-in_err-octets-clause-written
returns-in_err-octets-clause-written c = λ labels name written. returns-in_err-octets-clause-every c labels name (rw written (text_of_spells labels name))

pub returns-clause-every_fault : goal.returns-clause-every_fault
returns-clause-every_fault c = λ fault first. absurd (name_or_fault _ _ _ c.in_ok-octets.ensures.name.0.name c.in_ok-octets.ensures.name.1 first)

pub returns-in_err-octets-clause-every_fault : goal.returns-in_err-octets-clause-every_fault
returns-in_err-octets-clause-every_fault c = λ fault first.
    let p = err_from_is_err_and c.from_residual.result c.from_residual.ensures.1 in
    p.1 ∙ ap Err (p.2 ∙ one_fault _ _ fault c.in_err-octets.ensures.fault first)
