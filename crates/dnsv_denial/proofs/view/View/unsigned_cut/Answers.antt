use Rattle.std.proofs.Common.{inl, inr, ⊎_elim}
use Rattle.dnsv_chain.specs.Trust.{SecuredIn}
use Rattle.dnsv_denial.specs.proving.FirstProof.{CanProveNoData, CanProveNoName}
use Rattle.dnsv_denial.specs.unsigned_cuts.CutMeaning.{MeansCut}
use Rattle.dnsv_denial.specs.unsigned_cuts.Cuts.{HasUnsignedCut, IsUnsignedCut}
use Rattle.dnsv_denial.proofs.meaning.CutMeaningLemmas.{cut_means}
use Rattle.dnsv_proof_forms.proofs.lemmas.words.FirstLemmas.{if_some}
use Rattle.dnsv_denial.proofs.meaning.JustChainProofs.{some_where}
use Rattle.dnsv_denial.proofs.meaning.WholeChainProofs.{no_data_or_cut, no_name_or_cut, whole_cut}
use Rattle.dnsv_denial.proofs.view.View.unsigned_cut.Goals as goal

pub returns-clause-first : goal.returns-clause-first
returns-clause-first c = rw (← c.self.view_is) c.unsigned_cut.ensures

pub returns-clause-meaning : goal.returns-clause-meaning
returns-clause-meaning c =
    if_some (¬ HasUnsignedCut (SecuredIn c.args.self.now.trust) c.args.self.now.rrsets c.args.self.now.name) (IsUnsignedCut (SecuredIn c.args.self.now.trust) c.args.self.now.rrsets c.args.self.now.name)
    (MeansCut (SecuredIn c.args.self.now.trust) c.args.self.now.rrsets c.args.self.now.name) c.unsigned_cut.result
    (cut_means (SecuredIn c.args.self.now.trust) c.args.self.now.rrsets c.args.self.now.name)
    (returns-clause-first c)

pub returns-clause-delegation : goal.returns-clause-delegation
returns-clause-delegation c = λ zone cut whole under unsigned.
    some_where (HasUnsignedCut (SecuredIn c.args.self.now.trust) c.args.self.now.rrsets c.args.self.now.name) (IsUnsignedCut (SecuredIn c.args.self.now.trust) c.args.self.now.rrsets c.args.self.now.name)
    c.unsigned_cut.result (returns-clause-first c) (whole_cut (SecuredIn c.args.self.now.trust) c.args.self.now.rrsets c.args.self.now.name zone cut whole under unsigned)

pub returns-clause-missing_name : goal.returns-clause-missing_name
returns-clause-missing_name c = λ zone t whole lookup.
    ⊎_elim (λ (can : CanProveNoName (SecuredIn c.args.self.now.trust) c.args.self.now.rrsets c.args.self.now.name). inl can)
    (λ (cut : HasUnsignedCut (SecuredIn c.args.self.now.trust) c.args.self.now.rrsets c.args.self.now.name).
    inr (some_where (HasUnsignedCut (SecuredIn c.args.self.now.trust) c.args.self.now.rrsets c.args.self.now.name) (IsUnsignedCut (SecuredIn c.args.self.now.trust) c.args.self.now.rrsets c.args.self.now.name) c.unsigned_cut.result (returns-clause-first c) cut))
    (no_name_or_cut (SecuredIn c.args.self.now.trust) c.args.self.now.rrsets c.args.self.now.name zone whole t lookup)

pub returns-clause-missing_type : goal.returns-clause-missing_type
returns-clause-missing_type c = λ zone source t other another whole lookup.
    ⊎_elim (λ (can : CanProveNoData (SecuredIn c.args.self.now.trust) c.args.self.now.rrsets c.args.self.now.name t). inl can)
    (λ (cut : HasUnsignedCut (SecuredIn c.args.self.now.trust) c.args.self.now.rrsets c.args.self.now.name).
    inr (some_where (HasUnsignedCut (SecuredIn c.args.self.now.trust) c.args.self.now.rrsets c.args.self.now.name) (IsUnsignedCut (SecuredIn c.args.self.now.trust) c.args.self.now.rrsets c.args.self.now.name) c.unsigned_cut.result (returns-clause-first c) cut))
    (no_data_or_cut (SecuredIn c.args.self.now.trust) c.args.self.now.rrsets c.args.self.now.name zone whole t source other another lookup)
