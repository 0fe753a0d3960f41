use Rattle.std.proofs.Common.{List, subst, refl}
use Rattle.std.specs.List.{AllZip}
use Rattle.dnsv_mending.specs.declared.facts.signature.RrsetFacts.{RrsetFacts}
use Rattle.dnsv_mending.specs.declared.facts.signature.SignatureFacts.{SignatureFacts}
use Rattle.dnsv_chain.specs.Basis.{basis_by}
use Rattle.dnsv_faults.specs.Signatures.{AreSignatureFacts}
use Rattle.dnsv_faults.specs.declared.rrset.NumberedSignature.{NumberedSignature}
use Rattle.dnsv_faults.proofs.lemmas.OrderLemmas.{rrset_has}
use Rattle.dnsv_faults.proofs.rrset.facts_of.Goals as goal

pub returns : goal.returns
returns c =
    let Are : NumberedSignature → SignatureFacts → Type 0 =
    λ signature known. AreSignatureFacts (basis_by c.args.facts.now) c.args.number c.args.rrset.now signature.number known in
    let facts : RrsetFacts = record { number = c.args.number; signatures = c.in_ok-facts_of_each.field-0 } in
    rrset_has (basis_by c.args.facts.now) c.args.number c.args.rrset.now c.in_ok-order.order.items facts c.requires refl c.in_ok-order.ensures.order
    (subst (λ (order : List NumberedSignature). AllZip Are order facts.signatures.items) c.deref.ensures.value c.in_ok-facts_of_each.ensures)
