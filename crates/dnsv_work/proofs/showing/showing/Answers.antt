use Rattle.std.proofs.Common.{inr}
use Rattle.std.proofs.lemmas.Result.{err_from_is_err_and}
use Rattle.dnsv_files.specs.Files.Capture.{AnyMessage}
use Rattle.dnsv_files.specs.declared.opening.Opening.TheVariants.{Plain}
use Rattle.dnsv_files.proofs.FileLemmas.Faults.{TellsFileFaults-passed, TellsFileFaults-then, frames_refused}
use Rattle.dnsv_work.proofs.showing.showing.Goals as goal

pub returns-in_err-frames-clause-faults : goal.returns-in_err-frames-clause-faults
returns-in_err-frames-clause-faults g c =
    let p = err_from_is_err_and c.from_residual.result c.from_residual.ensures.1 in
    rw (p.1, p.2) (TellsFileFaults-passed c.in_err-frames.field-0.0 (c.in_err-frames.ensures.faults AnyMessage Plain))

pub returns-clause-faults : goal.returns-clause-faults
returns-clause-faults g c =
    TellsFileFaults-then _ _ c.messages_of_frames.result (c.in_ok-frames.ensures.faults AnyMessage Plain)
    (λ why place refused. frames_refused AnyMessage Plain _ _ c.in_ok-frames.ensures.frames why place (inr (tt, refused)))
    (rw c.deref.ensures.value at c.messages_of_frames.ensures.refused)
