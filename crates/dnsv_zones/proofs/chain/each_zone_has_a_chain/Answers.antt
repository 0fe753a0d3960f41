use Rattle.dnsv_zones.proofs.lemmas.chains.ChainLemmas.{nsec_chain, nsec3_chain}
use Rattle.dnsv_zones.proofs.chain.each_zone_has_a_chain.Goals as goal

pub returns-clause-nsec : goal.returns-clause-nsec
returns-clause-nsec c = nsec_chain

pub returns-clause-nsec3 : goal.returns-clause-nsec3
returns-clause-nsec3 c = λ zone hash well. nsec3_chain zone well hash
