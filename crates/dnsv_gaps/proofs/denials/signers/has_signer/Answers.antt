use Rattle.dnsv_gaps.proofs.SignerLemmas.{one_by}
use Rattle.dnsv_gaps.proofs.denials.signers.has_signer.Goals as goal

pub returns : goal.returns
returns c =
    let same = one_by c.args.rrset.now c.signatures.result.now c.signatures.ensures c.args.zone.now in
    (λ so. same.0 (c.is_one_by.ensures.0 so), λ has. c.is_one_by.ensures.1 (same.1 has))
