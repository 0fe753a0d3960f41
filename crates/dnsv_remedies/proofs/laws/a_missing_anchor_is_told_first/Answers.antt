use Rattle.dnsv_remedies.proofs.Once.{unanchored_first, unanchored_reasons}
use Rattle.dnsv_remedies.proofs.laws.a_missing_anchor_is_told_first.Goals as goal

pub returns-clause-first : goal.returns-clause-first
returns-clause-first c = unanchored_first

pub returns-clause-reasons : goal.returns-clause-reasons
returns-clause-reasons c = unanchored_reasons
