use Rattle.dnsv_chain.specs.Trust.{SecuredIn}
use Rattle.dnsv_denial.proofs.lemmas.unsigned_cuts.ShownLemmas.{chain_shown}
use Rattle.dnsv_denial.proofs.unsigned_cuts.shown_cuts.chain_cuts.Goals as goal

pub returns : goal.returns
returns c = λ trust rrsets chain are.
    chain_shown (SecuredIn trust) rrsets c.args.name.now c.args.zone.now chain c.args.records.now are
    (record { no_ds = c.unsigned_delegation-no_ds.result; opt_out = c.opt_out-left_out.result })
    c.unsigned_delegation-no_ds.ensures c.opt_out-left_out.ensures
