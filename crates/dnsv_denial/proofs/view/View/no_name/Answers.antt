use Rattle.dnsv_zones.specs.zones.Lookup.{IsLookup}
use Rattle.dnsv_zones.specs.zones.Lookup.Answer.{NoName}
use Rattle.dnsv_chain.specs.Trust.{SecuredIn}
use Rattle.dnsv_denial.specs.proving.FirstProof.{CanProveNoName, IsFirstNoName}
use Rattle.dnsv_denial.specs.proving.ShownDenials.{IsShownNoName}
use Rattle.dnsv_denial.proofs.lemmas.proving.FirstProofLemmas.{proof_of_no_name}
use Rattle.dnsv_proof_forms.proofs.lemmas.words.FirstLemmas.{if_some, match_by}
use Rattle.dnsv_denial.proofs.meaning.ProofMeaningLemmas.{first_no_name_means}
use Rattle.dnsv_denial.proofs.meaning.JustChainProofs.{can_be, exactly_where, just_no_name, some_where}
use Rattle.dnsv_denial.proofs.meaning.WholeChainProofs.{without_opt_out_no_name}
use Rattle.dnsv_denial.proofs.view.View.no_name.Goals as goal

pub returns-clause-first : goal.returns-clause-first
returns-clause-first c =
    match_by (¬ CanProveNoName (SecuredIn c.args.self.now.trust) c.args.self.now.rrsets c.args.self.now.name)
    (IsShownNoName (SecuredIn c.args.self.now.trust) c.args.self.now.rrsets c.args.self.now.name)
    (IsFirstNoName (SecuredIn c.args.self.now.trust) c.args.self.now.rrsets c.args.self.now.name)
    (λ shown. shown.proof) c.shown_no_name.result c.proof_of.result c.proof_of.ensures
    (proof_of_no_name (SecuredIn c.args.self.now.trust) c.args.self.now.rrsets c.args.self.now.name) c.shown_no_name.ensures.first

pub returns-clause-meaning : goal.returns-clause-meaning
returns-clause-meaning c =
    if_some (¬ CanProveNoName (SecuredIn c.args.self.now.trust) c.args.self.now.rrsets c.args.self.now.name) (IsFirstNoName (SecuredIn c.args.self.now.trust) c.args.self.now.rrsets c.args.self.now.name)
    _ c.proof_of.result
    (λ proof first. λ zone t has. first_no_name_means (SecuredIn c.args.self.now.trust) c.args.self.now.rrsets c.args.self.now.name zone proof t first has)
    (returns-clause-first c)

pub returns-clause-exactly : goal.returns-clause-exactly
returns-clause-exactly c = λ zone t just.
    exactly_where (CanProveNoName (SecuredIn c.args.self.now.trust) c.args.self.now.rrsets c.args.self.now.name) (IsLookup zone c.args.self.now.name t NoName) (IsFirstNoName (SecuredIn c.args.self.now.trust) c.args.self.now.rrsets c.args.self.now.name)
    c.proof_of.result (λ proof first. can_be (SecuredIn c.args.self.now.trust) c.args.self.now.rrsets c.args.self.now.name _ _ proof first) (returns-clause-first c)
    (just_no_name (SecuredIn c.args.self.now.trust) c.args.self.now.rrsets c.args.self.now.name zone t just)

pub returns-clause-whole : goal.returns-clause-whole
returns-clause-whole c = λ zone t whole lookup.
    some_where (CanProveNoName (SecuredIn c.args.self.now.trust) c.args.self.now.rrsets c.args.self.now.name) (IsFirstNoName (SecuredIn c.args.self.now.trust) c.args.self.now.rrsets c.args.self.now.name)
    c.proof_of.result (returns-clause-first c) (without_opt_out_no_name (SecuredIn c.args.self.now.trust) c.args.self.now.rrsets c.args.self.now.name zone t whole lookup)
