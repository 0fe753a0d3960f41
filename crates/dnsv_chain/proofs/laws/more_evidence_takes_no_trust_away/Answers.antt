use Rattle.std.proofs.lemmas.List.Elements.{Contains-append_left}
use Rattle.dnsv_chain.proofs.TrustedLemmas.{trusted_too, trusted_key_too, good_too, secured_too, good_under_better, numbered_left}
use Rattle.dnsv_chain.proofs.laws.more_evidence_takes_no_trust_away.Goals as goal

pub returns-clause-sets : goal.returns-clause-sets
returns-clause-sets c = λ meaning better moment rrsets more anchors others valid rest anchors_rest set trusted.
    trusted_too meaning better moment rrsets more anchors others rest anchors_rest
    (λ rrset rrsig key _ _ _ good. good_under_better meaning better moment valid rrset rrsig key good) trusted

pub returns-clause-keys : goal.returns-clause-keys
returns-clause-keys c = λ meaning better moment rrsets more anchors others valid rest anchors_rest zone rdata key.
    trusted_key_too meaning better moment rrsets more anchors others rest anchors_rest
    (λ rrset rrsig key _ _ _ good. good_under_better meaning better moment valid rrset rrsig key good) zone rdata key

pub returns-clause-good : goal.returns-clause-good
returns-clause-good c = λ meaning better moment rrsets more anchors others valid rest anchors_rest rrset rrsig good.
    good_too meaning better moment rrsets more anchors others rest anchors_rest
    (λ rrset rrsig key _ _ _ good. good_under_better meaning better moment valid rrset rrsig key good) rrset rrsig
    (λ key _ good. good_under_better meaning better moment valid rrset rrsig key good) good

pub returns-clause-numbers : goal.returns-clause-numbers
returns-clause-numbers c = λ meaning better moment rrsets later anchors others valid anchors_rest k s secured.
    secured_too meaning better moment rrsets _ anchors others (λ rrset among. Contains-append_left rrsets later rrset among) anchors_rest
    (λ rrset rrsig key _ _ _ good. good_under_better meaning better moment valid rrset rrsig key good) k s
    (λ rrset numbered. numbered_left rrsets later k rrset numbered) secured
