use Rattle.dnsv_zones.proofs.lemmas.meaning.Nsec3Truth.{matched}
use Rattle.dnsv_zones.proofs.nsec3.a_name_matched_by_nsec3_is_of_the_chain.Goals as goal

pub returns-clause-chained : goal.returns-clause-chained
returns-clause-chained c = λ zone hash names nsec3 name asked chain there apart is_asked matches.
    (matched zone hash names chain nsec3 there name asked apart is_asked matches).is_chained

pub returns-clause-types : goal.returns-clause-types
returns-clause-types c = λ zone hash names nsec3 name asked chain there apart is_asked matches.
    (matched zone hash names chain nsec3 there name asked apart is_asked matches).types
