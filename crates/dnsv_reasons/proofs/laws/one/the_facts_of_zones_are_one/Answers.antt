use Rattle.dnsv_reasons.proofs.lemmas.facts.RrsetLemmas.{one_rrset_facts}
use Rattle.dnsv_reasons.proofs.lemmas.facts.SignatureLemmas.{one_signature_facts}
use Rattle.dnsv_reasons.proofs.lemmas.facts.ZoneLemmas.{one_zone_facts}
use Rattle.dnsv_reasons.proofs.laws.one.the_facts_of_zones_are_one.Goals as goal

pub returns-clause-signatures : goal.returns-clause-signatures
returns-clause-signatures c = one_signature_facts

pub returns-clause-rrsets : goal.returns-clause-rrsets
returns-clause-rrsets c = one_rrset_facts

pub returns-clause-zones : goal.returns-clause-zones
returns-clause-zones c = one_zone_facts
