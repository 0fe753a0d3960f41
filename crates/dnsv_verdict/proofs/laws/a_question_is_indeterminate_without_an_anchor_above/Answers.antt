use Rattle.dnsv_verdict.proofs.TrustLemmas.AnchorLemmas.{indeterminate}
use Rattle.dnsv_verdict.proofs.laws.a_question_is_indeterminate_without_an_anchor_above.Goals as goal

pub returns : goal.returns
returns c = λ basis name t. (λ is. is.2, λ none. indeterminate basis name t none)
