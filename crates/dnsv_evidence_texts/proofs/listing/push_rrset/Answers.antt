use Rattle.std.proofs.Common.{[], arith, refl}
use Rattle.dnsv_evidence_texts.proofs.ListingLemmas.{as_many_signatures, signature_here, signatures_listed}
use Rattle.dnsv_evidence_texts.proofs.PartLemmas.{Listed-all, Listed-next}
use Rattle.dnsv_evidence_texts.proofs.listing.push_rrset.Goals as goal

pub loop-index-preserved : goal.loop-index-preserved
loop-index-preserved c =
    let here = signature_here c.args.rrset.now.signatures c.signatures-signatures.result.now c.loop-index.index c.index-signatures-index.result c.signatures-signatures.ensures c.loop-index-test.true in
    Listed-next c.loop-index.invariant [] _ _ _ _ here.0 refl
    (c.index-signatures-index.result, _, rw c.index-signatures-index.is here.1, c.in_ok-octets.ensures, refl)
    c.in_ok-push_signed.ensures.text c.in_ok-push_signed.ensures.first

pub returns : goal.returns
returns c =
    let all = Listed-all c.loop-index.invariant
    (omega (arith, as_many_signatures c.args.rrset.now.signatures c.signatures-signatures.result.now c.signatures-signatures.ensures, c.loop-index-test.false)) in
    (all.0, signatures_listed c.args.number c.args.rrset.now 1 c.args.rrset.now.signatures all.0 all.1, all.2, all.3)
