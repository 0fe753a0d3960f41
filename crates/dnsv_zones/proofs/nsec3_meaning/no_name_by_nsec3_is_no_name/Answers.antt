use Rattle.dnsv_zones.specs.forms.Nsec3.{nsec3_words}
use Rattle.dnsv_zones.proofs.lemmas.meaning.MeaningLemmas.{no_name}
use Rattle.dnsv_zones.proofs.lemmas.meaning.Nsec3Truth.{nsec3_true}
use Rattle.dnsv_zones.proofs.nsec3_meaning.no_name_by_nsec3_is_no_name.Goals as goal

pub returns : goal.returns
returns c = λ zone apex name t hash records has apart.
    no_name zone (nsec3_words hash records) apex name has.well_formed has.same_apex
    (nsec3_true zone hash has.names records name has.well_formed has.chain_names apart has.in_chain) t
