use Rattle.std.proofs.lemmas.Result.{err_from_is_err_and}
use Rattle.dnsv_message.specs.Streams.Frames.{octets_at_each}
use Rattle.dnsv_files.specs.Files.Capture.{AreFramesRefused, NewEvidence}
use Rattle.dnsv_files.proofs.FileLemmas.Faults.{TellsFileFaults-passed, TellsFileFaults-then, frames_refused}
use Rattle.dnsv_files.proofs.files.capture.framed_evidence_in.Goals as goal

pub returns-in_err-frames-clause-faults : goal.returns-in_err-frames-clause-faults
returns-in_err-frames-clause-faults g c =
    let p = err_from_is_err_and c.from_residual.result c.from_residual.ensures.1 in
    rw (p.1, p.2) (TellsFileFaults-passed c.in_err-frames.field-0.0 (c.in_err-frames.ensures.faults NewEvidence c.args.opening.now))

pub returns-in_err-held-clause-faults : goal.returns-in_err-held-clause-faults
returns-in_err-held-clause-faults g c =
    let p = err_from_is_err_and c.from_residual-in_err-held.result c.from_residual-in_err-held.ensures.1 in
    rw (p.1, p.2) (TellsFileFaults-then _ _ _ (c.in_ok-frames.ensures.faults NewEvidence c.args.opening.now)
    (frames_refused NewEvidence c.args.opening.now _ _ c.in_ok-frames.ensures.frames) (rw c.deref.ensures.value at c.in_err-held.ensures.refused))

pub returns-clause-faults : goal.returns-clause-faults
returns-clause-faults g c =
    TellsFileFaults-then (AreFramesRefused NewEvidence c.args.opening.now (octets_at_each c.in_ok-frames.frames.items)) _ _
    (c.in_ok-frames.ensures.faults NewEvidence c.args.opening.now) (frames_refused NewEvidence c.args.opening.now _ _ c.in_ok-frames.ensures.frames) tt
