use Rattle.std.proofs.Common.{inl}
use Rattle.std.proofs.lemmas.Result.{err_from_is_err_and}
use Rattle.dnsv_files.specs.Told.{IsNoMessageAt}
use Rattle.dnsv_files.proofs.FileLemmas.Capture.{IsFaultOf-weaker}
use Rattle.dnsv_files.proofs.files.capture.add_frame.Goals as goal

pub returns-in_err-message-clause-refused : goal.returns-in_err-message-clause-refused
returns-in_err-message-clause-refused c =
    let p = err_from_is_err_and c.from_residual.result c.from_residual.ensures.1 in
    rw (p.1, p.2) (IsFaultOf-weaker (IsNoMessageAt c.args.opening.now c.args.frame.now c.args.number) _ c.in_err-message.field-0.0
    (λ why place refused. (inl refused.0, refused.1, refused.2)) c.in_err-message.ensures.refused)

pub returns-clause-refused : goal.returns-clause-refused
returns-clause-refused c = c.add_message.ensures.refused c.args.opening.now c.args.frame.now c.in_ok-message.ensures.found
