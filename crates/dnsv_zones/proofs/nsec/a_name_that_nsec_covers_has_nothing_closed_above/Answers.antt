use Rattle.dnsv_zones.proofs.lemmas.chains.NsecLemmas.{covered_no_owner, covered_open_above}
use Rattle.dnsv_zones.proofs.nsec.a_name_that_nsec_covers_has_nothing_closed_above.Goals as goal

pub returns-clause-owner : goal.returns-clause-owner
returns-clause-owner c = λ zone nsec name there. covered_no_owner zone nsec there name

pub returns-clause-above : goal.returns-clause-above
returns-clause-above c = λ zone nsec name cut well there. covered_open_above zone nsec there name cut well
