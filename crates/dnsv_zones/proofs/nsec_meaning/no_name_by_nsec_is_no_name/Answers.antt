use Rattle.dnsv_zones.specs.forms.Nsec.{nsec_words}
use Rattle.dnsv_zones.proofs.lemmas.meaning.MeaningLemmas.{no_name}
use Rattle.dnsv_zones.proofs.lemmas.meaning.NsecTruth.{nsec_true}
use Rattle.dnsv_zones.proofs.nsec_meaning.no_name_by_nsec_is_no_name.Goals as goal

pub returns : goal.returns
returns c = λ zone apex name t records has. no_name zone (nsec_words apex records) apex name has.well_formed has.same_apex (nsec_true zone apex name records has.well_formed has.same_apex has.in_chain) t
