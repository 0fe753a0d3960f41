use Rattle.dnsv_explain.proofs.lemmas.telling.ExplanationLemmas.{explanation_follows}
use Rattle.dnsv_explain_laws.proofs.laws.explanations_follow.Goals as goal

pub returns : goal.returns
returns c = λ explained t links last verdict lines is. explanation_follows explained t links last verdict lines is
