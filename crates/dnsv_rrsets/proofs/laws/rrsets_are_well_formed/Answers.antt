use Rattle.dnsv_canonical.proofs.ReadableLemmas.WellFormedLemmas.{message_well_formed}
use Rattle.dnsv_rrsets.proofs.laws.rrsets_are_well_formed.Goals as goal

pub returns : goal.returns
returns c = λ number message is readable. message_well_formed number message (c.messages_fit.ensures message is) readable
