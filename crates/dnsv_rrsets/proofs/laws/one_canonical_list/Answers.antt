use Rattle.dnsv_canonical.proofs.CanonicalLemmas.{canonical_unique, canonical_some}
use Rattle.dnsv_rrsets.proofs.laws.one_canonical_list.Goals as goal

pub returns-clause-some : goal.returns-clause-some
returns-clause-some c = canonical_some

pub returns-clause-one : goal.returns-clause-one
returns-clause-one c = canonical_unique
