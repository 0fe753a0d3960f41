use Rattle.dnsv_zones.proofs.lemmas.completeness.NsecComplete.{unsigned_cut_proved}
use Rattle.dnsv_zones.proofs.nsec_complete.an_nsec_chain_proves_each_unsigned_delegation.Goals as goal

pub returns : goal.returns
returns c = λ zone apex name cut records chain. unsigned_cut_proved zone apex records chain name cut
