use Rattle.dnsv_zones.proofs.lemmas.completeness.NsecComplete.{no_data_proved, no_data_meant}
use Rattle.dnsv_zones.proofs.nsec_complete.an_nsec_chain_proves_each_missing_type.Goals as goal

pub returns : goal.returns
returns c = λ zone apex name t records chain other another. (
  λ lookup. no_data_proved zone apex records chain name lookup.0 t other another lookup.1,
  no_data_meant zone apex records chain name t,
)
