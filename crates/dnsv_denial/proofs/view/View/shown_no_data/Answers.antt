use Rattle.dnsv_chain.specs.Trust.{SecuredIn}
use Rattle.dnsv_denial.specs.proving.FirstProof.{CanProveNoData, IsFirstNoData}
use Rattle.dnsv_denial.specs.proving.ShownDenials.{IsShownNoData}
use Rattle.dnsv_denial.proofs.lemmas.proving.FirstProofLemmas.{proof_of_no_data}
use Rattle.dnsv_proof_forms.proofs.lemmas.words.FirstLemmas.{if_some}
use Rattle.dnsv_denial.proofs.view.View.shown_no_data.Goals as goal

pub returns-clause-first : goal.returns-clause-first
returns-clause-first c = rw (← c.self.view_is)
    (c.first_proof.ensures c.self.inside.trust.now c.self.inside.capture.now.rrsets (rw c.deref-3.ensures.value (rw c.deref-2.ensures (c.self.invariant.0.are_sets c.self.inside.trust.now))) (rw c.deref.ensures.value c.self.invariant.0.are_zones))

pub returns-clause-proof : goal.returns-clause-proof
returns-clause-proof c =
    if_some (¬ CanProveNoData (SecuredIn c.args.self.now.trust) c.args.self.now.rrsets c.args.self.now.name c.args.rtype.0) (IsShownNoData (SecuredIn c.args.self.now.trust) c.args.self.now.rrsets c.args.self.now.name c.args.rtype.0)
    (λ shown. IsFirstNoData (SecuredIn c.args.self.now.trust) c.args.self.now.rrsets c.args.self.now.name c.args.rtype.0 shown.proof) c.first_proof.result
    (proof_of_no_data (SecuredIn c.args.self.now.trust) c.args.self.now.rrsets c.args.self.now.name c.args.rtype)
    (returns-clause-first c)
