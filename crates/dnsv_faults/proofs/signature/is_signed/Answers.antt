use Rattle.std.proofs.Common.{◌↔◌, List, ℕ, subst, ap, ◌∙◌, IsTrue}
use Rattle.std.specs.List.{Contains}
use Rattle.dnsv_chain.specs.Trust.{KeptTrust, signed_of}
use Rattle.dnsv_faults.proofs.signature.is_signed.Goals as goal

pub returns : goal.returns
returns c =
    let trust = c.args.facts.now.trust in
    let numbers = c.signed.ensures ∙ ap (λ (t : KeptTrust). signed_of t c.args.number.rrset) c.trust.ensures.value in
    let secured = (c.trust.ensures.of.signed c.args.number.rrset).members c.args.number.signature in
    let among = subst (λ (ns : List ℕ). IsTrue c.is_among.result ↔ Contains ns c.args.number.signature) numbers c.is_among.ensures in
    (λ t. secured.0 (among.0 t), λ is. among.1 (secured.1 is))
