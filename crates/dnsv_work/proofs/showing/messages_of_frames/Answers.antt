use Rattle.std.proofs.lemmas.Result.{err_from_is_err_and}
use Rattle.dnsv_files.proofs.FileLemmas.Capture.{IsFaultOf-weaker, MessagesSoFar-no_message, frame_at}
use Rattle.dnsv_work.proofs.WorkLemmas.Showing.{ShownSoFar-next}
use Rattle.dnsv_work.proofs.showing.messages_of_frames.Goals as goal

pub loop-index-preserved : goal.loop-index-preserved
loop-index-preserved c =
    let here = frame_at c.args.frames.now c.loop-index.index _ c.loop-index-test.true in
    ShownSoFar-next c.loop-index.invariant _ here.0 here.1 c.in_ok-message.message _ c.in_ok-message.ensures.found c.in_ok-push_message.ensures

pub returns-in_err-message-clause-refused : goal.returns-in_err-message-clause-refused
returns-in_err-message-clause-refused c =
    let p = err_from_is_err_and c.from_residual.result c.from_residual.ensures.1 in
    let here = frame_at c.args.frames.now c.loop-index.index _ c.loop-index-test.true in
    rw (p.1, p.2) (IsFaultOf-weaker _ _ c.in_err-message.field-0.0 (MessagesSoFar-no_message c.loop-index.invariant.judged _ here.0 here.1) c.in_err-message.ensures.refused)
