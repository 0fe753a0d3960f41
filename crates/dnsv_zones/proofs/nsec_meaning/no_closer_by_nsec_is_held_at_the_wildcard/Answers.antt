use Rattle.dnsv_zones.specs.forms.Nsec.{nsec_words}
use Rattle.dnsv_zones.proofs.lemmas.meaning.MeaningLemmas.{held_at_wildcard}
use Rattle.dnsv_zones.proofs.lemmas.meaning.NsecTruth.{absent}
use Rattle.dnsv_zones.proofs.nsec_meaning.no_closer_by_nsec_is_held_at_the_wildcard.Goals as goal

pub returns : goal.returns
returns c = λ zone apex name labels t records has.
    held_at_wildcard zone (nsec_words apex records) apex name labels t has.well_formed has.same_apex
    (absent zone apex name records has.well_formed has.same_apex has.in_chain)
