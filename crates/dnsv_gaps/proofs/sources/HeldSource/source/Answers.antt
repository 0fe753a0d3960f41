use Rattle.dnsv_gaps.proofs.sources.HeldSource.source.Goals as goal

pub returns-clause-its : goal.returns-clause-its
returns-clause-its c = λ question within held.
    let it = c.records.ensures.its question c.args.labels held in record { within = within; hashes = it.0; its = it.1 }
