use Rattle.dnsv_zones.specs.forms.Nsec3.{nsec3_words}
use Rattle.dnsv_zones.proofs.lemmas.meaning.MeaningLemmas.{no_data, no_wildcard_data}
use Rattle.dnsv_zones.proofs.lemmas.meaning.Nsec3Truth.{nsec3_true}
use Rattle.dnsv_zones.proofs.nsec3_meaning.no_data_by_nsec3_is_no_data.Goals as goal

pub returns-clause-at_name : goal.returns-clause-at_name
returns-clause-at_name c = λ zone apex name t hash records has apart.
    no_data zone (nsec3_words hash records) apex name has.well_formed has.same_apex
    (nsec3_true zone hash has.names records name has.well_formed has.chain_names apart has.in_chain) t

pub returns-clause-at_wildcard : goal.returns-clause-at_wildcard
returns-clause-at_wildcard c = λ zone apex name t hash records has apart.
    no_wildcard_data zone (nsec3_words hash records) apex name has.well_formed has.same_apex
    (nsec3_true zone hash has.names records name has.well_formed has.chain_names apart has.in_chain) t
