use Rattle.std.proofs.Common.{refl, rules, Some}
use Rattle.dnsv_canonical.specs.SignedData.{IsSignedData}
use Rattle.dnsv_verifier.specs.Within.{IsVerifiableWithin}
use Rattle.dnsv_verifier.proofs.AskLemmas.{adds_nothing, adds_one}
use Rattle.dnsv_compact.specs.Signed.{IsSignedBy}
use Rattle.dnsv_compact.specs.declared.signed.Signed.{Signed}
use Rattle.dnsv_compact.proofs.SignedLemmas.{only_signed}
use Rattle.dnsv_compact.proofs.signed.add_signature.Goals as goal

pub returns-then-not-is_verifiable_within : goal.returns-then-not-is_verifiable_within
returns-then-not-is_verifiable_within c =
    adds_nothing (IsSignedBy c.args.range.from c.args.range.to c.args.number c.args.rrset.now c.args.signature c.args.rrsig.now) _
    (λ signed is. let holds = c.is_verifiable_within.ensures.1 is.verifiable in let fails = c.if-not-is_verifiable_within.true in cc)

pub returns : goal.returns
returns c =
    let verifiable : IsVerifiableWithin c.args.range.from c.args.range.to c.args.rrset.now c.args.rrsig.now = c.is_verifiable_within.ensures.0 c.if-not-is_verifiable_within.false in
    let signs : IsSignedData c.args.rrset.now.owner c.args.rrset.now.rtype c.args.rrset.now.rdata c.args.rrsig.now (Some c.in-Some.octets) = search rules in
    let signed : Signed = record { octets = c.in-Some.octets; made = c.copied.result; rrset = c.args.number; signature = c.args.signature } in
    let it : IsSignedBy c.args.range.from c.args.range.to c.args.number c.args.rrset.now c.args.signature c.args.rrsig.now signed =
    record { verifiable = verifiable; signs = signs; made = c.copied.ensures; of_rrset = refl; of_signature = refl } in
    rw c.in_ok-push.ensures.items
    (adds_one (IsSignedBy c.args.range.from c.args.range.to c.args.number c.args.rrset.now c.args.signature c.args.rrsig.now) c.args.signed.now.items signed it
    (λ other by. only_signed c.args.range.from c.args.range.to c.args.number c.args.rrset.now c.args.signature c.args.rrsig.now other signed by it))
