use Rattle.dnsv_files.proofs.FileLemmas.Capture.{IsFaultOf-weaker, EvidenceSoFar-next, EvidenceSoFar-refused, frame_at}
use Rattle.std.proofs.lemmas.Result.{err_from_is_err_and}
use Rattle.dnsv_files.proofs.files.capture.gathered.Goals as goal

pub loop-index-preserved : goal.loop-index-preserved
loop-index-preserved c =
    let here = frame_at c.args.frames.now c.loop-index.index _ c.loop-index-test.true in
    EvidenceSoFar-next c.loop-index.invariant _ here.0 here.1 _ c.in_ok-add_frame.ensures.taken

pub returns-in_err-add_frame-clause-refused : goal.returns-in_err-add_frame-clause-refused
returns-in_err-add_frame-clause-refused c =
    let p = err_from_is_err_and c.from_residual.result c.from_residual.ensures.1 in
    let here = frame_at c.args.frames.now c.loop-index.index _ c.loop-index-test.true in
    rw (p.1, p.2) (IsFaultOf-weaker _ _ c.in_err-add_frame.field-0.0 (EvidenceSoFar-refused c.loop-index.invariant _ here.0 here.1) c.in_err-add_frame.ensures.refused)
