use Rattle.dnsv_verdict.proofs.MeaningLemmas.CompleteLemmas.{tells_whole_chains}
use Rattle.dnsv_verdict.proofs.laws.complete.a_whole_chain_is_told_by_the_verdict.Goals as goal

pub returns : goal.returns
returns c = λ basis name t. tells_whole_chains basis name t
