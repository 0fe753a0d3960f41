use Rattle.std.proofs.Common.{inl, inr, arith, subst, length, ap}
use Rattle.dnsv_records.specs.Rrsig.{IsRrsig}
use Rattle.std.specs.List.{AllZip}
use Rattle.dnsv_canonical.specs.Evidence.{signatures_at}
use Rattle.dnsv_canonical.proofs.EvidenceLemmas.{no_signatures, its_signatures}
use Rattle.dnsv_canonical.proofs.capture.Capture.signatures.Goals as goal
use Rattle.dnsv_canonical.proofs.capture.Capture.signatures.Goals.{then-rrset-eq0-via-then-rrset-eq0, then-rrset-eq0-via-else-rrset-eq0+then-rrset-rrsets}

pub returns-then-rrset-eq0 : goal.returns-then-rrset-eq0
returns-then-rrset-eq0 c = elim c.then-rrset-eq0.branch [
  | then-rrset-eq0-via-then-rrset-eq0 w ↦ no_signatures c.args.self.now.rrsets c.args.rrset (inl w.if-rrset-eq0.true)
  | then-rrset-eq0-via-else-rrset-eq0+then-rrset-rrsets w ↦ no_signatures c.args.self.now.rrsets c.args.rrset (inr (omega (arith, w.if-rrset-rrsets.true, ap length c.rrsets-rrsets.ensures.value)))
]

pub returns : goal.returns
returns c =
    subst (λ rrsets. AllZip IsRrsig (signatures_at rrsets c.args.rrset) c.signatures.result.now) c.rrsets-rrsets.ensures.value
    (its_signatures c.rrsets-rrsets.result.now c.args.rrset c.index-rrsets-rrset.result c.signatures.result.now (omega arith) (omega arith) c.index-rrsets-rrset.is c.signatures.ensures)
