use Rattle.dnsv_zones.specs.forms.Nsec.{nsec_words}
use Rattle.dnsv_zones.proofs.lemmas.meaning.MeaningLemmas.{unsigned_cut}
use Rattle.dnsv_zones.proofs.lemmas.meaning.NsecTruth.{nsec_true}
use Rattle.dnsv_zones.proofs.nsec_meaning.unsigned_cut_by_nsec_is_an_unsigned_delegation.Goals as goal

pub returns : goal.returns
returns c = λ zone apex name cut records has. unsigned_cut zone (nsec_words apex records) apex name has.well_formed has.same_apex (nsec_true zone apex name records has.well_formed has.same_apex has.in_chain) cut
