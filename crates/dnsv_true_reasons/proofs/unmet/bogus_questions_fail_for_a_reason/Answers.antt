use Rattle.dnsv_true_reasons.proofs.Reasons.{bogus_fails, bogus_unproved}
use Rattle.dnsv_true_reasons.proofs.unmet.bogus_questions_fail_for_a_reason.Goals as goal

pub returns-clause-unproved : goal.returns-clause-unproved
returns-clause-unproved c = bogus_unproved

pub returns-clause-reason : goal.returns-clause-reason
returns-clause-reason c = bogus_fails
