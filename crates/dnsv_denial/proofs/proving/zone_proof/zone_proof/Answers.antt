use Rattle.std.proofs.Common.{arith}
use Rattle.std.proofs.lemmas.Option.{slice_get_within}
use Rattle.dnsv_chain.specs.Trust.{SecuredIn}
use Rattle.dnsv_denial.specs.proving.ChainOf.{StandsAs}
use Rattle.dnsv_denial.specs.proving.ZoneChains.{chain_at, chains_of}
use Rattle.dnsv_proof_forms.proofs.lemmas.words.FirstLemmas.{none_with}
use Rattle.dnsv_denial.proofs.lemmas.proving.ZoneChainLemmas.{chain_count, chain_there}
use Rattle.dnsv_denial.proofs.lemmas.proving.ZoneProofLemmas.{first_of_zone, none_of_zone}
use Rattle.dnsv_denial.proofs.proving.zone_proof.zone_proof.Goals as goal

pub chain_proof-requires : goal.chain_proof-requires
chain_proof-requires c = c.records.ensures.hashes c.args.name.now c.zone_chain-chain.ensures.hashes

pub returns-in-Some : goal.returns-in-Some
returns-in-Some c = λ trust rrsets is sets.
    first_of_zone (SecuredIn trust) rrsets c.args.denial c.args.name.now c.args.zone.now.zone c.args.sets.now sets
    c.loop-number.number (chain_at c.args.sets.now c.loop-number.number) c.in-Some.shown
    (chain_there c.args.sets.now c.loop-number.number (omega (arith, c.loop-number-test.true, c.loop-number.auto.number-end)))
    (c.in-Some.ensures trust rrsets (chain_at c.args.sets.now c.loop-number.number) (c.records.ensures.chain trust rrsets c.args.zone.now.zone (chain_at c.args.sets.now c.loop-number.number) (c.zone_chain-chain.ensures.chain trust rrsets is)))
    (c.loop-number.invariant trust rrsets is)

pub loop-number-preserved : goal.loop-number-preserved
loop-number-preserved c = λ trust rrsets is.
    none_with (λ chain. StandsAs (SecuredIn trust) rrsets c.args.denial c.args.name.now c.args.zone.now.zone chain)
    (chains_of c.args.sets.now) c.loop-number.number (chain_at c.args.sets.now c.loop-number.number)
    (chain_there c.args.sets.now c.loop-number.number (omega (arith, c.loop-number-test.true, c.loop-number.auto.number-end)))
    (c.in_default.ensures trust rrsets (chain_at c.args.sets.now c.loop-number.number) (c.records.ensures.chain trust rrsets c.args.zone.now.zone (chain_at c.args.sets.now c.loop-number.number) (c.zone_chain-chain.ensures.chain trust rrsets is)))
    (c.loop-number.invariant trust rrsets is)

pub returns : goal.returns
returns c = λ trust rrsets is sets.
    none_of_zone (SecuredIn trust) rrsets c.args.denial c.args.name.now c.args.zone.now.zone c.args.sets.now sets
    (λ k chain there. let within = slice_get_within (chains_of c.args.sets.now) k chain there in
    let count = chain_count c.args.sets.now in
    c.loop-number.invariant trust rrsets is k chain (omega (arith, within, count, c.loop-number-test.false, c.loop-number.auto.number-end)) there)
