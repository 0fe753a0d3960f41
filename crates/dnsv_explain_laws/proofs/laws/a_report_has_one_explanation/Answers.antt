use Rattle.dnsv_explain_laws.proofs.lemmas.one.WholeLemmas.{one_of_report}
use Rattle.dnsv_explain_laws.proofs.laws.a_report_has_one_explanation.Goals as goal

pub returns : goal.returns
returns c = λ basis name t report a b is x y. one_of_report basis name t report a b is x y
