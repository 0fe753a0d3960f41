use Rattle.dnsv_derivations.proofs.lemmas.intervals.HoldingLemmas.{one_holding}
use Rattle.dnsv_derivations.proofs.laws.signatures_hold_in_one_interval.Goals as goal

pub returns : goal.returns
returns c = one_holding
