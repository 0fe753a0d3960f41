use Rattle.dnsv_rules.proofs.needs.PartLemmas.{needs_no_type}
use Rattle.dnsv_rules.proofs.laws.a_record_that_holds_the_type_denies_nothing.Goals as goal

pub returns : goal.returns
returns c = λ setting asked lines proof there form holds checks. needs_no_type setting asked lines proof checks there form holds
