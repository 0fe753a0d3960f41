use Rattle.std.proofs.lemmas.Result.{err_from_is_err_and}
use Rattle.dnsv_message.proofs.message.Message.decode.Goals as goal

pub returns-in_err-message-clause-every : goal.returns-in_err-message-clause-every
returns-in_err-message-clause-every c = λ message at.
    let p = err_from_is_err_and c.from_residual.result c.from_residual.ensures.1 in
    rw (p.1, p.2) (c.in_err-message.ensures.every message at)

pub returns-clause-every : goal.returns-clause-every
returns-clause-every c = c.in_ok-message.ensures.every
