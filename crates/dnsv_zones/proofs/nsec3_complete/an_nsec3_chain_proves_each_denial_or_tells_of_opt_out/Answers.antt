use Rattle.dnsv_zones.proofs.lemmas.completeness.Nsec3Complete.{no_name_proved, no_data_proved}
use Rattle.dnsv_zones.proofs.nsec3_complete.an_nsec3_chain_proves_each_denial_or_tells_of_opt_out.Goals as goal

pub returns-clause-missing_name : goal.returns-clause-missing_name
returns-clause-missing_name c = λ zone apex name t hash records chain apart. no_name_proved zone apex hash records chain name apart t

pub returns-clause-missing_type : goal.returns-clause-missing_type
returns-clause-missing_type c = λ zone apex name source t hash records chain apart. no_data_proved zone apex hash records chain name apart t source
