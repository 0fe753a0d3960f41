use Rattle.dnsv_zones.specs.forms.Nsec3.{nsec3_words}
use Rattle.dnsv_zones.proofs.lemmas.meaning.MeaningLemmas.{unsigned_cut}
use Rattle.dnsv_zones.proofs.lemmas.meaning.Nsec3Truth.{nsec3_true}
use Rattle.dnsv_zones.proofs.nsec3_meaning.unsigned_cut_by_nsec3_is_an_unsigned_delegation.Goals as goal

pub returns : goal.returns
returns c = λ zone apex name cut hash records has apart.
    unsigned_cut zone (nsec3_words hash records) apex name has.well_formed has.same_apex
    (nsec3_true zone hash has.names records name has.well_formed has.chain_names apart has.in_chain) cut
