use Rattle.std.proofs.Common.{List, take, subst, sym, ◌+◌}
use Rattle.std.specs.List.{AllZip}
use Rattle.dnsv_chain.proofs.ZipLemmas.{zip_more}
use Rattle.dnsv_mending.specs.declared.facts.signature.SignatureFacts.{SignatureFacts}
use Rattle.dnsv_chain.specs.Basis.{basis_by}
use Rattle.dnsv_faults.specs.Signatures.{AreSignatureFacts}
use Rattle.dnsv_faults.specs.declared.rrset.NumberedSignature.{NumberedSignature}
use Rattle.dnsv_faults.proofs.rrset.facts_of_each.Goals as goal

pub loop-signature-preserved : goal.loop-signature-preserved
loop-signature-preserved c =
    let Are : NumberedSignature → SignatureFacts → Type 0 =
    λ signature known. AreSignatureFacts (basis_by c.args.facts.now) c.args.number c.args.rrset.now signature.number known in
    subst (λ (each : List SignatureFacts). AllZip Are (take (c.loop-signature.signature-index + 1) c.args.order.now) each) (sym c.in_ok-push.ensures.items)
    (zip_more Are c.args.order.now c.loop-signature.each.items c.loop-signature.signature-index c.signature-item.result _ c.loop-signature-test.true
    c.signature-item.is c.loop-signature.invariant c.in_ok-signature_facts.ensures)
