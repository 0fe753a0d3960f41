use Rattle.dnsv_proof_forms.specs.forms.ProofForms.ShowsNoCloser.{no_closer}
use Rattle.dnsv_proof_forms.proofs.forms.denial.closer_form.Goals as goal

pub returns : goal.returns
returns c = no_closer c.in-Some.next_closer c.in-Some.ensures.first
