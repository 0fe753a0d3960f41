use Rattle.std.proofs.lemmas.Result.{err_from_is_err_and}
use Rattle.dnsv_files.proofs.FileLemmas.Faults.{TellsFileFaults-passed, TellsFileFaults-then}
use Rattle.dnsv_files.proofs.files.capture.evidence_in.Goals as goal

pub returns-in_err-framed-clause-faults : goal.returns-in_err-framed-clause-faults
returns-in_err-framed-clause-faults g c =
    let p = err_from_is_err_and c.from_residual.result c.from_residual.ensures.1 in
    rw (p.1, p.2) (TellsFileFaults-passed c.in_err-framed.field-0.0 c.in_err-framed.ensures.faults)

pub returns-clause-faults : goal.returns-clause-faults
returns-clause-faults g c = TellsFileFaults-then (λ why place. ⊥) _ _ c.in_ok-framed.ensures.faults (λ why place bad. absurd bad) tt
