use Rattle.dnsv_verifier.proofs.admissible.is_verifiable.Goals as goal

pub returns-then-time_valid : goal.returns-then-time_valid
returns-then-time_valid c = c.is_fit.ensures c.args.moment (c.time_valid.ensures.0 c.if-time_valid.true)
