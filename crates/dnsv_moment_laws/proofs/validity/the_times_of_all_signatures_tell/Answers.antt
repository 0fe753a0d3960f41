use Rattle.dnsv_moments.proofs.lemmas.validity.MomentLemmas.{same_by_times}
use Rattle.dnsv_moments.proofs.lemmas.validity.SaidLemmas.{all_have}
use Rattle.dnsv_moment_laws.proofs.validity.the_times_of_all_signatures_tell.Goals as goal

pub returns-clause-have : goal.returns-clause-have
returns-clause-have c = all_have

pub returns-clause-same : goal.returns-clause-same
returns-clause-same c = same_by_times
