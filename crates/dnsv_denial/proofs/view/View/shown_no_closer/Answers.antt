use Rattle.dnsv_chain.specs.Trust.{SecuredIn}
use Rattle.dnsv_denial.specs.proving.FirstProof.{CanProveNoCloser, IsFirstNoCloser}
use Rattle.dnsv_denial.specs.proving.ShownDenials.{IsShownNoCloser}
use Rattle.dnsv_denial.proofs.lemmas.proving.RespelledZoneLemmas.{closer_of_shown}
use Rattle.dnsv_proof_forms.proofs.lemmas.words.FirstLemmas.{if_some}
use Rattle.dnsv_denial.proofs.view.View.shown_no_closer.Goals as goal

pub returns-clause-proof : goal.returns-clause-proof
returns-clause-proof c =
    let first = c.no_closer.ensures c.self.inside.trust.now c.self.inside.capture.now.rrsets (rw c.deref-3.ensures.value (rw c.deref-2.ensures (c.self.invariant.0.are_sets c.self.inside.trust.now))) (rw c.deref.ensures.value c.self.invariant.0.are_zones) in
    rw (← c.self.view_is) (if_some (¬ CanProveNoCloser (SecuredIn c.self.inside.trust.now) c.self.inside.capture.now.rrsets c.self.inside.name c.args.labels c.args.zone.now)
    (IsShownNoCloser (SecuredIn c.self.inside.trust.now) c.self.inside.capture.now.rrsets c.self.inside.name c.args.labels c.args.zone.now)
    (λ shown. IsFirstNoCloser (SecuredIn c.self.inside.trust.now) c.self.inside.capture.now.rrsets c.self.inside.name c.args.labels c.args.zone.now shown.proof) c.no_closer.result
    (closer_of_shown (SecuredIn c.self.inside.trust.now) c.self.inside.capture.now.rrsets c.self.inside.name c.args.labels c.args.zone.now)
    first)
