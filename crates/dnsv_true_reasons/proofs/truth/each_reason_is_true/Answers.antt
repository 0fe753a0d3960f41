use Rattle.dnsv_true_reasons.proofs.truth.each_reason_is_true.Goals as goal
use Rattle.dnsv_true_reasons.proofs.truths.QuestionLaw.{reasons_true}

pub returns : goal.returns
returns c = λ a lines told formed unsettled fails there. reasons_true a lines formed unsettled fails told there
