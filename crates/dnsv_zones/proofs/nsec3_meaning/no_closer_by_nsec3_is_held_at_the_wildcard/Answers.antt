use Rattle.dnsv_zones.specs.forms.Nsec3.{nsec3_words}
use Rattle.dnsv_zones.proofs.lemmas.meaning.MeaningLemmas.{held_at_wildcard}
use Rattle.dnsv_zones.proofs.lemmas.meaning.Nsec3Truth.{absent}
use Rattle.dnsv_zones.proofs.nsec3_meaning.no_closer_by_nsec3_is_held_at_the_wildcard.Goals as goal

pub returns : goal.returns
returns c = λ zone apex name labels t hash records has.
    held_at_wildcard zone (nsec3_words hash records) apex name labels t has.well_formed has.same_apex
    (absent zone hash has.names records has.in_chain)
