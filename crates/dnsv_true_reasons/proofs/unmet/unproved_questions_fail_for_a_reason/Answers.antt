use Rattle.dnsv_true_reasons.proofs.Reasons.{unproved_fails}
use Rattle.dnsv_true_reasons.proofs.unmet.unproved_questions_fail_for_a_reason.Goals as goal

pub returns : goal.returns
returns c = unproved_fails
