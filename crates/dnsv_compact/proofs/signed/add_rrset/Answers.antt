use Rattle.dnsv_compact.specs.Signed.{IsSignedBy}
use Rattle.dnsv_compact.proofs.NumberedLemmas.{first_more, first_none, slice_get_at}
use Rattle.dnsv_compact.proofs.SignedLemmas.{all_among}
use Rattle.dnsv_compact.proofs.signed.add_rrset.Goals as goal

pub loop-place-init : goal.loop-place-init
loop-place-init c =
    first_none (λ signature rrsig signed. IsSignedBy c.args.range.from c.args.range.to c.args.number c.args.rrset.now signature rrsig signed) c.signatures-signatures.result.now _

pub loop-place-preserved : goal.loop-place-preserved
loop-place-preserved c =
    first_more (λ signature rrsig signed. IsSignedBy c.args.range.from c.args.range.to c.args.number c.args.rrset.now signature rrsig signed) c.signatures-signatures.result.now c.loop-place.place
    c.index-signatures-place.result _ _ _
    (slice_get_at c.signatures-signatures.result.now c.loop-place.place _ c.loop-place-test.true c.index-signatures-place.is) c.loop-place.invariant c.in_ok-add_signature.ensures

pub returns : goal.returns
returns c =
    all_among c.args.rrset.now c.signatures-signatures.result.now c.signatures-signatures.ensures c.args.range.from c.args.range.to c.args.number c.loop-place.place _ _ c.loop-place-test.false
    c.loop-place.invariant
