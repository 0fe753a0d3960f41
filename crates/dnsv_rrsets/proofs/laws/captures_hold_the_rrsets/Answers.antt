use Rattle.dnsv_rrsets.proofs.LawLemmas.{evidence_rrsets}
use Rattle.dnsv_rrsets.proofs.laws.captures_hold_the_rrsets.Goals as goal

pub returns : goal.returns
returns c = evidence_rrsets
