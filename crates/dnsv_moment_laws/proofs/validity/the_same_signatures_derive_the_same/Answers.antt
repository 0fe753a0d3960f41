use Rattle.dnsv_moments.proofs.lemmas.validity.ToldLemmas.{derivation_of, links_derived}
use Rattle.dnsv_moment_laws.proofs.validity.the_same_signatures_derive_the_same.Goals as goal

pub returns-clause-links : goal.returns-clause-links
returns-clause-links c = λ basis other links lines same. links_derived basis other same links lines

pub returns-clause-verdict : goal.returns-clause-verdict
returns-clause-verdict c = λ basis other t links last verdict lines same. derivation_of basis other same t links last verdict lines
