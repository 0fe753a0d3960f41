use Rattle.dnsv_chain.specs.Trust.{SecuredIn}
use Rattle.dnsv_denial.specs.unsigned_cuts.Cuts.{HasUnsignedCut, IsUnsignedCut}
use Rattle.dnsv_denial.specs.unsigned_cuts.ShownCut.{IsShownCut, cut_name}
use Rattle.dnsv_denial.proofs.lemmas.unsigned_cuts.ShownCutLemmas.{cut_of_shown}
use Rattle.dnsv_proof_forms.proofs.lemmas.words.FirstLemmas.{if_some}
use Rattle.dnsv_denial.proofs.view.View.shown_unsigned_cut.Goals as goal

pub returns-clause-first : goal.returns-clause-first
returns-clause-first c = rw (← c.self.view_is) c.shown_cut.ensures

pub returns-clause-cut : goal.returns-clause-cut
returns-clause-cut c =
    if_some (¬ HasUnsignedCut (SecuredIn c.args.self.now.trust) c.args.self.now.rrsets c.args.self.now.name) (IsShownCut (SecuredIn c.args.self.now.trust) c.args.self.now.rrsets c.args.self.now.name)
    (λ shown. IsUnsignedCut (SecuredIn c.args.self.now.trust) c.args.self.now.rrsets c.args.self.now.name (cut_name c.args.self.now.name shown)) c.shown_cut.result
    (cut_of_shown (SecuredIn c.args.self.now.trust) c.args.self.now.rrsets c.args.self.now.name)
    (returns-clause-first c)
