use Rattle.dnsv_rules.proofs.checks.ExplanationLemmas.{explanation_checks}
use Rattle.dnsv_rules.proofs.laws.explanations_check.Goals as goal

pub returns : goal.returns
returns c = explanation_checks
