use Rattle.dnsv_reasons.proofs.lemmas.OneFailures.{one_failures}
use Rattle.dnsv_reasons.proofs.laws.one.what_fails_is_one_list.Goals as goal

pub returns : goal.returns
returns c = λ a lines others x y. one_failures a lines others x y
