use Rattle.dnsv_zones.proofs.lemmas.meaning.Nsec3Truth.{matched, encloser_open}
use Rattle.dnsv_zones.proofs.nsec3.an_encloser_by_nsec3_is_an_open_node.Goals as goal

pub returns-clause-node : goal.returns-clause-node
returns-clause-node c = λ zone hash names nsec3 name asked chain there apart is_asked matches.
    (matched zone hash names chain nsec3 there name asked apart is_asked matches).node

pub returns-clause-open_ : goal.returns-clause-open_
returns-clause-open_ c = λ zone hash names nsec3 name asked chain there apart is_asked matches.
    encloser_open zone hash names chain nsec3 there name asked apart is_asked matches
