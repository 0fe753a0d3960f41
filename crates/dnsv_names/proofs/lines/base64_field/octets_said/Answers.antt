use Rattle.std.proofs.Common.{sym, arith}
use Rattle.dnsv_names.proofs.Base64Lemmas.{no_count, said_by, same_count, says}
use Rattle.dnsv_names.proofs.lines.base64_field.octets_said.Goals as goal

pub returns-in-Ok-clause-said : goal.returns-in-Ok-clause-said
returns-in-Ok-clause-said c =
    said_by c.args.group.now c.in-Ok.count c.requires (λ i. omega (arith, c.type_inv.group i)) c.in-Ok.ensures.bytes (sym c.in-Ok.ensures.value)

pub returns-in-Ok-clause-every : goal.returns-in-Ok-clause-every
returns-in-Ok-clause-every c = λ count is.
    same_count c.in-Ok.count count _ c.in-Ok.ensures.value (says c.args.group.now count c.requires is)

pub returns-in-Err-clause-every : goal.returns-in-Err-clause-every
returns-in-Err-clause-every c = λ count is.
    no_count c.in-Err.field-0 count _ c.in-Err.ensures.value (says c.args.group.now count c.requires is)
