use Rattle.dnsv_zones.specs.forms.Nsec.{nsec_words}
use Rattle.dnsv_zones.proofs.lemmas.meaning.MeaningLemmas.{no_data, empty, no_wildcard_data, empty_wildcard}
use Rattle.dnsv_zones.proofs.lemmas.meaning.NsecTruth.{nsec_true}
use Rattle.dnsv_zones.proofs.nsec_meaning.no_data_by_nsec_is_no_data.Goals as goal

pub returns-clause-at_name : goal.returns-clause-at_name
returns-clause-at_name c = λ zone apex name t records has. no_data zone (nsec_words apex records) apex name has.well_formed has.same_apex (nsec_true zone apex name records has.well_formed has.same_apex has.in_chain) t

pub returns-clause-at_empty : goal.returns-clause-at_empty
returns-clause-at_empty c = λ zone apex name t records has. empty zone (nsec_words apex records) apex name has.well_formed has.same_apex (nsec_true zone apex name records has.well_formed has.same_apex has.in_chain) t

pub returns-clause-at_wildcard : goal.returns-clause-at_wildcard
returns-clause-at_wildcard c = λ zone apex name t records has. no_wildcard_data zone (nsec_words apex records) apex name has.well_formed has.same_apex (nsec_true zone apex name records has.well_formed has.same_apex has.in_chain) t

pub returns-clause-at_empty_wildcard : goal.returns-clause-at_empty_wildcard
returns-clause-at_empty_wildcard c = λ zone apex name t records has. empty_wildcard zone (nsec_words apex records) apex name has.well_formed has.same_apex (nsec_true zone apex name records has.well_formed has.same_apex has.in_chain) t
