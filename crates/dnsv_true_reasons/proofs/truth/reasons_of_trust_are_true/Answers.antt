use Rattle.dnsv_lines.specs.declared.line.fault.Reason.TheVariants as reason
use Rattle.dnsv_true_reasons.proofs.truth.reasons_of_trust_are_true.Goals as goal
use Rattle.dnsv_true_reasons.proofs.truths.TrustLaw.{trust_reasons}

pub returns : goal.returns
returns c = record {
  zones = λ a lines fault formed fails there. trust_reasons a lines formed fails (reason.Zone fault) there;
  entries = λ a lines fault formed fails there. trust_reasons a lines formed fails (reason.Entry fault) there;
  not_self_signed = λ a lines without formed fails there. trust_reasons a lines formed fails (reason.NotSelfSigned without)
      there;
  not_vouched = λ a lines keys formed fails there. trust_reasons a lines formed fails (reason.NotVouched keys) there;
  unsigned = λ a lines unsigned formed fails there. trust_reasons a lines formed fails (reason.Unsigned unsigned) there;
  signatures = λ a lines fault formed fails there. trust_reasons a lines formed fails (reason.Signature fault) there;
}
