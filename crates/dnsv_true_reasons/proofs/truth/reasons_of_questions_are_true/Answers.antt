use Rattle.dnsv_lines.specs.declared.line.fault.Reason.TheVariants as reason
use Rattle.dnsv_true_reasons.proofs.truth.reasons_of_questions_are_true.Goals as goal
use Rattle.dnsv_true_reasons.proofs.truths.QuestionLaw.{question_reasons}

pub returns : goal.returns
returns c = record {
  closers = λ a lines closer fails there. question_reasons a lines fails (reason.NoCloser closer) there;
  dnames = λ a lines above fails there. question_reasons a lines fails (reason.Dname above) there;
  nsec3s = λ a lines unusable fails there. question_reasons a lines fails (reason.Nsec3 unusable) there;
  sources = λ a lines fault fails there. question_reasons a lines fails (reason.Source fault) there;
  missing = λ a lines missing fails there. question_reasons a lines fails (reason.AnswerMissing missing) there;
  denials = λ a lines denial unsettled fails there. question_reasons a lines fails (reason.DenialUnproved denial) there unsettled;
  cuts = λ a lines cut unsettled fails there. question_reasons a lines fails (reason.DsUnproved cut) there unsettled;
}
