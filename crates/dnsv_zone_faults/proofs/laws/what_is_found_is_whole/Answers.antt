use Rattle.dnsv_zone_faults.proofs.lemmas.zones.ClosedLemmas.{closed_signature}
use Rattle.dnsv_zone_faults.proofs.lemmas.zones.WholeLemmas.{whole}
use Rattle.dnsv_zone_faults.proofs.laws.what_is_found_is_whole.Goals as goal

pub returns-clause-zones : goal.returns-clause-zones
returns-clause-zones c = whole

pub returns-clause-signature : goal.returns-clause-signature
returns-clause-signature c = λ basis name t zones k rrset s facts its are numbered above.
    closed_signature basis name t zones are k rrset numbered s facts its above
