use Rattle.dnsv_names.specs.Name.{Labels}
use Rattle.dnsv_zones.specs.zones.Lookup.{IsLookup}
use Rattle.dnsv_zones.specs.zones.Lookup.Answer.{NoData}
use Rattle.dnsv_chain.specs.Trust.{SecuredIn}
use Rattle.dnsv_denial.specs.proving.FirstProof.{CanProveNoData, IsFirstNoData}
use Rattle.dnsv_denial.specs.proving.ShownDenials.{IsShownNoData}
use Rattle.dnsv_denial.proofs.lemmas.proving.FirstProofLemmas.{proof_of_no_data}
use Rattle.dnsv_proof_forms.proofs.lemmas.words.FirstLemmas.{if_some, match_by}
use Rattle.dnsv_denial.proofs.meaning.ProofMeaningLemmas.{first_no_data_means}
use Rattle.dnsv_denial.proofs.meaning.JustChainProofs.{can_be, exactly_where, just_no_data, some_where}
use Rattle.dnsv_denial.proofs.meaning.WholeChainProofs.{without_opt_out_no_data}
use Rattle.dnsv_denial.proofs.view.View.no_data.Goals as goal

pub returns-clause-first : goal.returns-clause-first
returns-clause-first c =
    match_by (¬ CanProveNoData (SecuredIn c.args.self.now.trust) c.args.self.now.rrsets c.args.self.now.name c.args.rtype.0)
    (IsShownNoData (SecuredIn c.args.self.now.trust) c.args.self.now.rrsets c.args.self.now.name c.args.rtype.0)
    (IsFirstNoData (SecuredIn c.args.self.now.trust) c.args.self.now.rrsets c.args.self.now.name c.args.rtype.0)
    (λ shown. shown.proof) c.shown_no_data.result c.proof_of.result c.proof_of.ensures
    (proof_of_no_data (SecuredIn c.args.self.now.trust) c.args.self.now.rrsets c.args.self.now.name c.args.rtype) c.shown_no_data.ensures.first

pub returns-clause-meaning : goal.returns-clause-meaning
returns-clause-meaning c =
    if_some (¬ CanProveNoData (SecuredIn c.args.self.now.trust) c.args.self.now.rrsets c.args.self.now.name c.args.rtype.0) (IsFirstNoData (SecuredIn c.args.self.now.trust) c.args.self.now.rrsets c.args.self.now.name c.args.rtype.0)
    _ c.proof_of.result
    (λ proof first. λ zone has. first_no_data_means (SecuredIn c.args.self.now.trust) c.args.self.now.rrsets c.args.self.now.name zone proof c.args.rtype.0 first has)
    (returns-clause-first c)

pub returns-clause-exactly : goal.returns-clause-exactly
returns-clause-exactly c = λ zone other another just.
    exactly_where (CanProveNoData (SecuredIn c.args.self.now.trust) c.args.self.now.rrsets c.args.self.now.name c.args.rtype.0)
    ((source : Labels) × IsLookup zone c.args.self.now.name c.args.rtype.0 (NoData source))
    (IsFirstNoData (SecuredIn c.args.self.now.trust) c.args.self.now.rrsets c.args.self.now.name c.args.rtype.0)
    c.proof_of.result (λ proof first. can_be (SecuredIn c.args.self.now.trust) c.args.self.now.rrsets c.args.self.now.name _ _ proof first) (returns-clause-first c)
    (just_no_data (SecuredIn c.args.self.now.trust) c.args.self.now.rrsets c.args.self.now.name zone c.args.rtype.0 other another just)

pub returns-clause-whole : goal.returns-clause-whole
returns-clause-whole c = λ zone source other another whole lookup.
    some_where (CanProveNoData (SecuredIn c.args.self.now.trust) c.args.self.now.rrsets c.args.self.now.name c.args.rtype.0) (IsFirstNoData (SecuredIn c.args.self.now.trust) c.args.self.now.rrsets c.args.self.now.name c.args.rtype.0)
    c.proof_of.result (returns-clause-first c) (without_opt_out_no_data (SecuredIn c.args.self.now.trust) c.args.self.now.rrsets c.args.self.now.name zone c.args.rtype.0 source other another whole lookup)
