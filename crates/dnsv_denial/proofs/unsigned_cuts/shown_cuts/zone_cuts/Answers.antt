use Rattle.std.proofs.Common.{arith}
use Rattle.dnsv_chain.specs.Trust.{SecuredIn}
use Rattle.dnsv_denial.specs.proving.ZoneChains.{chain_at, chains_of}
use Rattle.dnsv_denial.specs.unsigned_cuts.ShownCuts.{IsCutOf, IsOptOutOf}
use Rattle.dnsv_denial.proofs.lemmas.proving.ZoneChainLemmas.{chain_count, chain_there}
use Rattle.dnsv_denial.proofs.lemmas.unsigned_cuts.ShownLemmas.{none_shown, shown_all, shown_with, zone_shown}
use Rattle.dnsv_denial.proofs.unsigned_cuts.shown_cuts.zone_cuts.Goals as goal

pub chain_cuts-requires : goal.chain_cuts-requires
chain_cuts-requires c = c.records.ensures.hashes c.args.name.now c.zone_chain-chain.ensures.hashes

pub loop-number-init : goal.loop-number-init
loop-number-init c = λ trust rrsets is.
    none_shown (chains_of c.args.sets.now) (IsCutOf (SecuredIn trust) rrsets c.args.name.now c.args.zone.now.zone)
    (IsOptOutOf (SecuredIn trust) rrsets c.args.name.now c.args.zone.now.zone)

pub loop-number-preserved : goal.loop-number-preserved
loop-number-preserved c = λ trust rrsets is.
    shown_with (chains_of c.args.sets.now) (IsCutOf (SecuredIn trust) rrsets c.args.name.now c.args.zone.now.zone)
    (IsOptOutOf (SecuredIn trust) rrsets c.args.name.now c.args.zone.now.zone)
    c.loop-number.number (chain_at c.args.sets.now c.loop-number.number) c.loop-number.found c.chain_cuts.result c.both-found.result
    (chain_there c.args.sets.now c.loop-number.number (omega (arith, c.loop-number-test.true, c.loop-number.auto.number-end)))
    (c.loop-number.invariant trust rrsets is)
    (c.chain_cuts.ensures trust rrsets (chain_at c.args.sets.now c.loop-number.number) (c.records.ensures.chain trust rrsets c.args.zone.now.zone (chain_at c.args.sets.now c.loop-number.number) (c.zone_chain-chain.ensures.chain trust rrsets is)))
    c.both-found.ensures

pub returns : goal.returns
returns c = λ trust rrsets is sets.
    let count = chain_count c.args.sets.now in
    zone_shown (SecuredIn trust) rrsets c.args.name.now c.args.zone.now.zone c.args.sets.now sets c.loop-number.found
    (shown_all (chains_of c.args.sets.now) (IsCutOf (SecuredIn trust) rrsets c.args.name.now c.args.zone.now.zone)
    (IsOptOutOf (SecuredIn trust) rrsets c.args.name.now c.args.zone.now.zone)
    c.loop-number.number c.loop-number.found (omega (arith, count, c.loop-number-test.false, c.loop-number.auto.number-end)) (c.loop-number.invariant trust rrsets is))
