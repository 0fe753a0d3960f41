-- of the RRsets so far those that a zone secured are listed for it
use Rattle.dnsv_anchors.specs.ByOwner.{values_at}
use Rattle.dnsv_chain.specs.Trust.{SecuredIn}
use Rattle.dnsv_denial.proofs.lemmas.gathering.SignerLemmas.{AreListedTo}
use Rattle.dnsv_denial.proofs.gathering.signers.numbers_by_zone.Given as goal

abbrev pub invariant-loop-place : goal.invariant-loop-place
invariant-loop-place l = AreListedTo (SecuredIn l.trust) l.rrset-items l.place (values_at l.numbers)
