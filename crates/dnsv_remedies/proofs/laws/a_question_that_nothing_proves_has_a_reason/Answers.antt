use Rattle.dnsv_remedies.proofs.Reasons.{always_has_reason, has_reason}
use Rattle.dnsv_remedies.proofs.laws.a_question_that_nothing_proves_has_a_reason.Goals as goal

pub returns-clause-of_what_is_found : goal.returns-clause-of_what_is_found
returns-clause-of_what_is_found c = has_reason

pub returns-clause-always : goal.returns-clause-always
returns-clause-always c = always_has_reason
