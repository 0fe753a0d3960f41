use Rattle.dnsv_chain.proofs.TrustedLemmas.{trusted_too, trusted_key_too, good_too, secured_too}
use Rattle.dnsv_chain.proofs.laws.trust_depends_on_what_is_asked.Goals as goal

pub returns-clause-sets : goal.returns-clause-sets
returns-clause-sets c = λ first second moment rrsets anchors same set trusted.
    trusted_too first second moment rrsets rrsets anchors anchors (λ _ among. among) (λ _ among. among)
    (c.good_depends_on_what_is_asked.ensures first second moment rrsets same) trusted

pub returns-clause-keys : goal.returns-clause-keys
returns-clause-keys c = λ first second moment rrsets anchors same zone rdata key.
    trusted_key_too first second moment rrsets rrsets anchors anchors (λ _ among. among) (λ _ among. among)
    (c.good_depends_on_what_is_asked.ensures first second moment rrsets same) zone rdata key

pub returns-clause-good : goal.returns-clause-good
returns-clause-good c = λ first second moment rrsets anchors same rrset rrsig among its good.
    good_too first second moment rrsets rrsets anchors anchors (λ _ each. each) (λ _ each. each)
    (c.good_depends_on_what_is_asked.ensures first second moment rrsets same) rrset rrsig
    (λ key key_is. c.good_depends_on_what_is_asked.ensures first second moment rrsets same rrset rrsig key among its key_is) good

pub returns-clause-numbers : goal.returns-clause-numbers
returns-clause-numbers c = λ first second moment rrsets anchors same k s secured.
    secured_too first second moment rrsets rrsets anchors anchors (λ _ among. among) (λ _ among. among)
    (c.good_depends_on_what_is_asked.ensures first second moment rrsets same) k s (λ _ numbered. numbered) secured
