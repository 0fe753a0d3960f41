use Rattle.dnsv_zones.proofs.lemmas.completeness.Nsec3Complete.{unsigned_cut_proved}
use Rattle.dnsv_zones.proofs.nsec3_complete.an_nsec3_chain_tells_of_each_unsigned_delegation.Goals as goal

pub returns : goal.returns
returns c = λ zone apex name cut hash records chain apart. unsigned_cut_proved zone apex hash records chain name apart cut
