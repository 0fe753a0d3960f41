use Rattle.dnsv_chain.proofs.TrustedLemmas.{none_trusted}
use Rattle.dnsv_chain.proofs.laws.nothing_is_trusted_without_an_anchor.Goals as goal

pub returns-clause-sets : goal.returns-clause-sets
returns-clause-sets c = λ meaning moment rrsets set trusted. none_trusted trusted

pub returns-clause-signatures : goal.returns-clause-signatures
returns-clause-signatures c = λ meaning moment rrsets k s secured. none_trusted secured.good.trusted
