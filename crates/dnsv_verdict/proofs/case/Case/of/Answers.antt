use Rattle.std.proofs.Common.{List, refl, subst}
use Rattle.dnsv_canonical.specs.Rrsets.{ReceivedRrset}
use Rattle.dnsv_chain.specs.Trust.{SecuredIn}
use Rattle.dnsv_denial.specs.gathering.ByZone.{AreDenialRecords}
use Rattle.dnsv_verdict.proofs.OfCase.{case_by}
use Rattle.dnsv_chain.specs.Basis.{basis_of}
use Rattle.dnsv_verdict.proofs.case.Case.of.Goals as goal

pub invariant_of-result : goal.invariant_of-result
invariant_of-result c = (
  c.in_ok-trust.ensures,
  subst (λ (rrsets : List ReceivedRrset). AreDenialRecords (SecuredIn c.in_ok-trust.trust) rrsets c.in_ok-denials.denials) c.capture.ensures c.in_ok-denials.ensures,
)

pub returns-clause-of : goal.returns-clause-of
returns-clause-of c = record { rrsets = refl; anchors = refl; table = refl; trust = c.in_ok-trust.ensures }

pub returns-clause-basis : goal.returns-clause-basis
returns-clause-basis c = λ meaning moment rrsets is.
    case_by (basis_of rrsets c.args.anchors.now moment meaning) c.args.table _
    (record { rrsets = refl; anchors = refl; table = refl; trust = c.in_ok-trust.ensures }) is
