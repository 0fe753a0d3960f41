use Rattle.dnsv_zones.proofs.lemmas.completeness.NsecComplete.{no_name_proved, no_name_meant}
use Rattle.dnsv_zones.proofs.nsec_complete.an_nsec_chain_proves_each_missing_name.Goals as goal

pub returns : goal.returns
returns c = λ zone apex name t records chain.
    (no_name_proved zone apex records chain name t, no_name_meant zone apex records chain name t)
