use Rattle.std.proofs.Common.{refl, arith}
use Rattle.std.specs.Prelude.{IsTrue}
use Rattle.std.proofs.lemmas.Option.{slice_get_within}
use Rattle.dnsv_chain.specs.Trust.{SecuredIn}
use Rattle.dnsv_denial.specs.proving.ZoneChains.{chain_at, chains_of}
use Rattle.dnsv_denial.specs.unsigned_cuts.ShownCuts.{OptsOutNextCloserOf}
use Rattle.dnsv_proof_forms.proofs.lemmas.words.FirstLemmas.{none_with}
use Rattle.dnsv_denial.proofs.lemmas.proving.ZoneChainLemmas.{chain_count, chain_there}
use Rattle.dnsv_denial.proofs.lemmas.unsigned_cuts.OptOutNextCloserLemmas.{chain_leaves, none_opt_out, opt_out_by_chain}
use Rattle.dnsv_denial.proofs.unsigned_cuts.zone_opt_out.zone_opts_out_next_closer.Goals as goal

pub opts_out_next_closer-requires : goal.opts_out_next_closer-requires
opts_out_next_closer-requires c = c.records.ensures.hashes c.args.name.now c.zone_chain-chain.ensures.hashes

pub returns-then-opts_out_next_closer : goal.returns-then-opts_out_next_closer
returns-then-opts_out_next_closer c = λ trust rrsets is sets. (
  λ yes. opt_out_by_chain (SecuredIn trust) rrsets c.args.name.now c.args.zone.now.zone c.args.labels c.args.sets.now (chain_at c.args.sets.now c.loop-number.number)
      ((chain_leaves (SecuredIn trust) rrsets c.args.name.now c.args.zone.now.zone c.args.labels (chain_at c.args.sets.now c.loop-number.number) c.records.result (IsTrue c.opts_out_next_closer.result)
      (c.records.ensures.chain trust rrsets c.args.zone.now.zone (chain_at c.args.sets.now c.loop-number.number) (c.zone_chain-chain.ensures.chain trust rrsets is)) c.opts_out_next_closer.ensures.0 c.opts_out_next_closer.ensures.1).0 c.if-opts_out_next_closer.true),
  λ has. refl,
)

pub loop-number-preserved : goal.loop-number-preserved
loop-number-preserved c = λ trust rrsets is.
    none_with (λ chain. OptsOutNextCloserOf (SecuredIn trust) rrsets c.args.name.now c.args.labels c.args.zone.now.zone chain)
    (chains_of c.args.sets.now) c.loop-number.number (chain_at c.args.sets.now c.loop-number.number)
    (chain_there c.args.sets.now c.loop-number.number (omega (arith, c.loop-number-test.true, c.loop-number.auto.number-end)))
    (λ leaves. let holds = (chain_leaves (SecuredIn trust) rrsets c.args.name.now c.args.zone.now.zone c.args.labels (chain_at c.args.sets.now c.loop-number.number) c.records.result (IsTrue c.opts_out_next_closer.result)
    (c.records.ensures.chain trust rrsets c.args.zone.now.zone (chain_at c.args.sets.now c.loop-number.number) (c.zone_chain-chain.ensures.chain trust rrsets is)) c.opts_out_next_closer.ensures.0 c.opts_out_next_closer.ensures.1).1 leaves in let fails = c.if-opts_out_next_closer.false in cc)
    (c.loop-number.invariant trust rrsets is)

pub returns : goal.returns
returns c = λ trust rrsets is sets. (
  λ yes. let bad : ⊥ = cc in absurd bad,
  λ has. absurd (none_opt_out (SecuredIn trust) rrsets c.args.name.now c.args.zone.now.zone c.args.labels c.args.sets.now sets
      (λ k chain there. let within = slice_get_within (chains_of c.args.sets.now) k chain there in
      let count = chain_count c.args.sets.now in
      c.loop-number.invariant trust rrsets is k chain (omega (arith, within, count, c.loop-number-test.false, c.loop-number.auto.number-end)) there) has),
)
