use Rattle.dnsv_gaps.proofs.SignerLemmas.{one_speaking}
use Rattle.dnsv_gaps.proofs.denials.signers.has_speaker.Goals as goal

pub returns : goal.returns
returns c =
    let same = one_speaking c.args.rrset.now c.signatures.result.now c.signatures.ensures c.args.name.now c.args.rtype.0
    c.is_from_above.result c.is_from_above.ensures in
    (λ so. same.0 (c.has_signer_above.ensures.0 so), λ has. c.has_signer_above.ensures.1 (same.1 has))
