use Rattle.std.proofs.Common.{subst}
use Rattle.dnsv_chain.specs.Trust.{SecuredIn}
use Rattle.dnsv_denial.specs.gathering.ByZone.{AreDenialRecords}
use Rattle.dnsv_chain.specs.Basis.{CaseContents}
use Rattle.dnsv_verdict.proofs.case.Case.denials.Goals as goal

pub returns : goal.returns
returns c =
    let Are : CaseContents → Type 0 = λ case. AreDenialRecords (SecuredIn case.trust) case.rrsets c.self.inside.denials in
    subst Are c.self.view_is c.self.invariant.1
