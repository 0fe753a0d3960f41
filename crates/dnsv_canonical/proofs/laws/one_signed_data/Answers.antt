use Rattle.dnsv_canonical.proofs.SignedLemmas.{signed_data_unique, signed_somehow}
use Rattle.dnsv_canonical.proofs.laws.one_signed_data.Goals as goal

pub returns-clause-one : goal.returns-clause-one
returns-clause-one c = signed_data_unique

pub returns-clause-some : goal.returns-clause-some
returns-clause-some c = signed_somehow
