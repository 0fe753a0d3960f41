use Rattle.std.proofs.lemmas.Result.{err_from_is_err_and}
use Rattle.dnsv_files.specs.Opening.Macs.{AreMacsRefused, BeginsWithMac}
use Rattle.dnsv_files.proofs.FileLemmas.Text.{no_refusal, refusals_alike, wanted_alike}
use Rattle.dnsv_files.proofs.opening.macs.RequestMacsFromText.from_text.Goals as goal

pub returns-in_err-each-clause-every_fault : goal.returns-in_err-each-clause-every_fault
returns-in_err-each-clause-every_fault c =
    let p = err_from_is_err_and c.from_residual.result c.from_residual.ensures.1 in
    rw (p.1, p.2) (refusals_alike (AreMacsRefused c.args.text.now) (BeginsWithMac c.args.text.now) c.in_err-each.field-0.0 c.in_err-each.ensures.every_fault)

pub returns-clause-every_fault : goal.returns-clause-every_fault
returns-clause-every_fault c =
    no_refusal (AreMacsRefused c.args.text.now) (BeginsWithMac c.args.text.now) c.in_ok-each.each c.in_ok-each.each.items c.in_ok-each.ensures.every_fault

pub returns-in_err-each-clause-memory : goal.returns-in_err-each-clause-memory
returns-in_err-each-clause-memory c =
    let p = err_from_is_err_and c.from_residual.result c.from_residual.ensures.1 in
    rw (p.1, p.2) (wanted_alike c.in_err-each.field-0.0 c.in_err-each.ensures.memory)
