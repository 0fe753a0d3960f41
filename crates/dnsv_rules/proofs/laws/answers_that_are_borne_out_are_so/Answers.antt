use Rattle.dnsv_rules.proofs.bears.MeaningLemmas.{set_true}
use Rattle.dnsv_rules.proofs.laws.answers_that_are_borne_out_are_so.Goals as goal

pub returns : goal.returns
returns c = λ setting asked lines name t k s checks borne. set_true setting lines checks.follows name t k s borne
