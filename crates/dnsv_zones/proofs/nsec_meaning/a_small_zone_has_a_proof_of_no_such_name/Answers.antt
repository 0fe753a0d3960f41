use Rattle.dnsv_zones.proofs.lemmas.examples.Example.{has_records, form}
use Rattle.dnsv_zones.proofs.nsec_meaning.a_small_zone_has_a_proof_of_no_such_name.Goals as goal

pub returns-clause-premises : goal.returns-clause-premises
returns-clause-premises c = has_records

pub returns-clause-form : goal.returns-clause-form
returns-clause-form c = form
