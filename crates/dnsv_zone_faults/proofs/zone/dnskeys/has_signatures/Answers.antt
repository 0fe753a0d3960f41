use Rattle.dnsv_zone_faults.proofs.lemmas.zones.OwnLemmas.{has_some}
use Rattle.dnsv_zone_faults.proofs.zone.dnskeys.has_signatures.Goals as goal

pub returns : goal.returns
returns c = has_some c.args.rrset.now.signatures c.signatures.result.now c.signatures.ensures c.is_empty.result c.is_empty.ensures
