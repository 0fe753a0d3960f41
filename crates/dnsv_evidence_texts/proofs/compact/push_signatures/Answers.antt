use Rattle.std.proofs.Common.{◌∙◌, [], ◌∷◌, arith, refl, sym}
use Rattle.dnsv_compact.specs.CompactList.{listed_signature}
use Rattle.dnsv_evidence_texts.proofs.CompactLemmas.{signature_named, signature_unnamed, signatures_listed}
use Rattle.dnsv_evidence_texts.proofs.ListingLemmas.{as_many_signatures, signature_here}
use Rattle.dnsv_evidence_texts.proofs.PartLemmas.{Listed-all, Listed-next, Listed-none}
use Rattle.dnsv_evidence_texts.proofs.compact.push_signatures.Goals as goal

pub loop-index-preserved-then-not-names_signature : goal.loop-index-preserved-then-not-names_signature
loop-index-preserved-then-not-names_signature c =
    let rrsig = c.index-signatures-index.result in
    let here = signature_here c.args.rrset.now.signatures c.signatures-signatures.result.now c.loop-index.index rrsig c.signatures-signatures.ensures c.loop-index-test.true in
    Listed-none c.loop-index.invariant [] _ here.0 refl
    (signature_unnamed c.args.list.now.todo c.args.number _ _ rrsig (rw c.index-signatures-index.is here.1) (sym c.names_signature.ensures ∙ c.if-not-names_signature.true))

pub loop-index-preserved : goal.loop-index-preserved
loop-index-preserved c =
    let rrsig = c.index-signatures-index.result in
    let here = signature_here c.args.rrset.now.signatures c.signatures-signatures.result.now c.loop-index.index rrsig c.signatures-signatures.ensures c.loop-index-test.true in
    Listed-next c.loop-index.invariant [] _ (listed_signature _ rrsig ∷ []) _ _ here.0 refl
    (signature_named c.args.list.now.todo c.args.number _ _ rrsig (rw c.index-signatures-index.is here.1) (sym c.names_signature.ensures ∙ c.if-not-names_signature.false))
    c.in_ok-push_signature.ensures.text c.in_ok-push_signature.ensures.first

pub returns : goal.returns
returns c =
    let all = Listed-all c.loop-index.invariant
    (omega (arith, as_many_signatures c.args.rrset.now.signatures c.signatures-signatures.result.now c.signatures-signatures.ensures, c.loop-index-test.false)) in
    (all.0, signatures_listed c.args.list.now.todo c.args.number 1 c.args.rrset.now.signatures all.0 all.1, all.2)
