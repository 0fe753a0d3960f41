use Rattle.dnsv_chain.proofs.DerivationLemmas.{derivation_of, trusted_by_derivation}
use Rattle.dnsv_chain.proofs.laws.trust_leads_down_from_an_anchor.Goals as goal

pub returns : goal.returns
returns c = λ meaning moment rrsets anchors set.
    (λ trusted. derivation_of meaning moment rrsets anchors trusted, λ derivation. trusted_by_derivation meaning moment rrsets anchors set derivation)
