use Rattle.dnsv_chain.specs.Trust.{SecuredIn}
use Rattle.dnsv_denial.specs.proving.FirstProof.{CanProveNoCloser, IsFirstNoCloser}
use Rattle.dnsv_denial.specs.proving.ShownDenials.{IsShownNoCloser}
use Rattle.dnsv_denial.proofs.lemmas.proving.RespelledZoneLemmas.{closer_of_shown}
use Rattle.dnsv_proof_forms.proofs.lemmas.words.FirstLemmas.{if_some, match_by}
use Rattle.dnsv_denial.proofs.meaning.ProofMeaningLemmas.{first_no_closer_means}
use Rattle.dnsv_denial.proofs.view.View.no_closer.Goals as goal

pub returns-clause-first : goal.returns-clause-first
returns-clause-first c =
    match_by (¬ CanProveNoCloser (SecuredIn c.args.self.now.trust) c.args.self.now.rrsets c.args.self.now.name c.args.labels c.args.zone.now)
    (IsShownNoCloser (SecuredIn c.args.self.now.trust) c.args.self.now.rrsets c.args.self.now.name c.args.labels c.args.zone.now)
    (IsFirstNoCloser (SecuredIn c.args.self.now.trust) c.args.self.now.rrsets c.args.self.now.name c.args.labels c.args.zone.now)
    (λ shown. shown.proof) c.shown_no_closer.result c.proof_of.result c.proof_of.ensures
    (closer_of_shown (SecuredIn c.args.self.now.trust) c.args.self.now.rrsets c.args.self.now.name c.args.labels c.args.zone.now) c.shown_no_closer.ensures.first

pub returns-clause-meaning : goal.returns-clause-meaning
returns-clause-meaning c =
    if_some (¬ CanProveNoCloser (SecuredIn c.args.self.now.trust) c.args.self.now.rrsets c.args.self.now.name c.args.labels c.args.zone.now)
    (IsFirstNoCloser (SecuredIn c.args.self.now.trust) c.args.self.now.rrsets c.args.self.now.name c.args.labels c.args.zone.now)
    _ c.proof_of.result
    (λ proof first signer t. first_no_closer_means (SecuredIn c.args.self.now.trust) c.args.self.now.rrsets c.args.self.now.name signer proof c.args.zone.now c.args.labels t first)
    (returns-clause-first c)
