use Rattle.std.proofs.Common.{subst}
use Rattle.dnsv_chain.specs.Basis.{CaseContents, HasTrust}
use Rattle.dnsv_faults.proofs.case_facts.CaseFacts.trust.Goals as goal

pub returns-clause-of : goal.returns-clause-of
returns-clause-of c = subst (λ (case : CaseContents). HasTrust case) c.self.view_is c.self.invariant.0
