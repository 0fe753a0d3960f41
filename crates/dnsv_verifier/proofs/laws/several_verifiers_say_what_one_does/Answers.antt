use Rattle.dnsv_verifier.proofs.PanelLemmas.{one_is_invalid, all_are_invalid, one_is_valid, all_are_valid}
use Rattle.dnsv_verifier.proofs.laws.several_verifiers_say_what_one_does.Goals as goal

pub returns-clause-invalid : goal.returns-clause-invalid
returns-clause-invalid c = λ answers. (one_is_invalid answers, all_are_invalid answers)

pub returns-clause-valid : goal.returns-clause-valid
returns-clause-valid c = λ answers. (
  λ is. (one_is_valid answers is, λ bad. let other = all_are_invalid answers bad in cc),
  λ both. all_are_valid answers both.0 both.1,
)
