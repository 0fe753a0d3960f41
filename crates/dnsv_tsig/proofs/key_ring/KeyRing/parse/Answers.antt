use Rattle.std.proofs.Common.{refl}
use Rattle.std.proofs.lemmas.Result.{err_from_is_err_and}
use Rattle.dnsv_tsig.proofs.KeyLaws.{IsRingOf-no_fault}
use Rattle.dnsv_tsig.proofs.KeyLemmas.{told_again}
use Rattle.dnsv_tsig.proofs.key_ring.KeyRing.parse.Goals as goal

pub returns-in_err-test_lines-clause-every_fault : goal.returns-in_err-test_lines-clause-every_fault
returns-in_err-test_lines-clause-every_fault c = λ fault is.
    let p = err_from_is_err_and c.from_residual.result c.from_residual.ensures.1 in
    rw (p.1, p.2) (told_again _ _ fault c.args.text.now refl (c.in_err-test_lines.ensures.every_fault fault is))

pub returns-in_err-keys-clause-every_fault : goal.returns-in_err-keys-clause-every_fault
returns-in_err-keys-clause-every_fault c = λ fault is.
    let ring = c.in_ok-test_lines.ensures.ring in absurd (IsRingOf-no_fault c.args.text.now ring.0 fault ring.1 is)

pub returns-clause-every_fault : goal.returns-clause-every_fault
returns-clause-every_fault c = λ fault is.
    let ring = c.in_ok-test_lines.ensures.ring in absurd (IsRingOf-no_fault c.args.text.now ring.0 fault ring.1 is)
