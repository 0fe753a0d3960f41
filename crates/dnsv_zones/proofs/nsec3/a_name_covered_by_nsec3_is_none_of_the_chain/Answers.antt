use Rattle.dnsv_zones.proofs.lemmas.meaning.Nsec3Truth.{covered_not_chained, without_opt_out_no_node}
use Rattle.dnsv_zones.proofs.nsec3.a_name_covered_by_nsec3_is_none_of_the_chain.Goals as goal

pub returns-clause-chained : goal.returns-clause-chained
returns-clause-chained c = λ zone hash names nsec3 name there. covered_not_chained zone hash names nsec3 there name

pub returns-clause-without_opt_out : goal.returns-clause-without_opt_out
returns-clause-without_opt_out c = λ zone hash names nsec3 name there. without_opt_out_no_node zone hash names nsec3 there name
