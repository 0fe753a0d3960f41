use Rattle.dnsv_rules.proofs.bears.DenialLemmas.{case_so}
use Rattle.dnsv_rules.proofs.laws.cases_that_are_borne_out_are_so.Goals as goal

pub returns : goal.returns
returns c = λ setting asked lines cut checks has. case_so setting asked lines checks cut has
