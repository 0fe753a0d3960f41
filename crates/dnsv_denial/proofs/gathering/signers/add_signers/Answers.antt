use Rattle.std.proofs.Common.{refl}
use Rattle.dnsv_anchors.specs.ByOwner.{values_at}
use Rattle.dnsv_denial.proofs.lemmas.gathering.SignerLemmas.{all_signers, no_signers, signer_more}
use Rattle.dnsv_denial.proofs.gathering.signers.add_signers.Goals as goal

pub loop-signature-init : goal.loop-signature-init
loop-signature-init c = no_signers c.args.rrset.now c.args.secured.now c.args.number (values_at c.args.numbers.now)

pub loop-signature-preserved : goal.loop-signature-preserved
loop-signature-preserved c =
    signer_more c.args.rrset.now c.args.secured.now c.args.number (values_at c.args.numbers.now) (values_at c.loop-signature.numbers) (values_at c.add_signer.new.numbers) c.loop-signature.signature-index _ refl c.loop-signature-test.true
    c.in_ok-add_signer.ensures.kept c.in_ok-add_signer.ensures.added c.loop-signature.invariant

pub returns-clause-kept : goal.returns-clause-kept
returns-clause-kept c = c.loop-signature.invariant.kept

pub returns-clause-added : goal.returns-clause-added
returns-clause-added c =
    all_signers c.args.rrset.now c.args.secured.now c.args.number (values_at c.args.numbers.now) (values_at c.loop-signature.numbers) c.loop-signature.signature-index c.loop-signature-test.false c.loop-signature.invariant
