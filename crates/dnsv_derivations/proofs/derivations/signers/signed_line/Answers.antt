use Rattle.std.proofs.Common.{◌≤◌, Option, length, subst, arith, ◌∙◌}
use Rattle.dnsv_derivations.specs.Explained.{setting_in}
use Rattle.dnsv_derivations.specs.derivations.SignerSearch.{IsFirstTo}
use Rattle.dnsv_derivations.specs.declared.derivations.signers.Signer.{Signer}
use Rattle.dnsv_derivations.proofs.lemmas.NumberedLemmas.{all_passed, in_list}
use Rattle.dnsv_derivations.proofs.lemmas.derivations.SignerLemmas.{never_secured, no_signature, signature_there, the_line}
use Rattle.dnsv_derivations.proofs.derivations.signers.signed_line.Goals as goal

pub returns-in_default-numbered : goal.returns-in_default-numbered
returns-in_default-numbered c =
    no_signature (setting_in c.args.evidence.now) c.args.number c.in-Some.rrset.now
    (in_list c.args.evidence.now.rrsets c.rrsets-rrsets.result.now c.args.number.rrset c.in-Some.rrset.now c.rrsets-rrsets.ensures c.in-Some.ensures)
    c.signatures.result.now c.signatures.ensures c.in_default-numbered.ensures

pub first_signer-requires-clause-rrsig : goal.first_signer-requires-clause-rrsig
first_signer-requires-clause-rrsig c =
    signature_there (setting_in c.args.evidence.now) c.args.number c.in-Some.rrset.now
    (in_list c.args.evidence.now.rrsets c.rrsets-rrsets.result.now c.args.number.rrset c.in-Some.rrset.now c.rrsets-rrsets.ensures c.in-Some.ensures)
    c.signatures.result.now c.in-Some-numbered.rrsig.now c.signatures.ensures c.in-Some-numbered.ensures

pub returns-in_default-2 : goal.returns-in_default-2
returns-in_default-2 c =
    let setting = setting_in c.args.evidence.now in
    let n = length c.rrsets-rrsets.result.now in
    let First : Option Signer → Type 0 = λ first. IsFirstTo setting c.args.number n first in
    let itself : n ≤ n = omega arith in
    never_secured setting c.args.number n (all_passed c.args.evidence.now.rrsets c.rrsets-rrsets.result.now n c.rrsets-rrsets.ensures itself)
    (subst First c.in_default-2.is c.in_ok-signer.ensures)

pub returns : goal.returns
returns c =
    let setting = setting_in c.args.evidence.now in
    let n = length c.rrsets-rrsets.result.now in
    let First : Option Signer → Type 0 = λ first. IsFirstTo setting c.args.number n first in
    let itself : n ≤ n = omega arith in
    the_line setting c.args.number c.in-Some.rrset.now
    (in_list c.args.evidence.now.rrsets c.rrsets-rrsets.result.now c.args.number.rrset c.in-Some.rrset.now c.rrsets-rrsets.ensures c.in-Some.ensures)
    n c.in-Some-2.signer c.in-Some-numbered-2.set.now c.in_ok-clone.field-0 c.in_ok-clone-2.field-0 c.rtype.result
    (all_passed c.args.evidence.now.rrsets c.rrsets-rrsets.result.now n c.rrsets-rrsets.ensures itself)
    (subst First c.in-Some-2.is c.in_ok-signer.ensures)
    (in_list c.args.evidence.now.rrsets c.rrsets-rrsets.result.now c.in-Some-2.signer.set c.in-Some-numbered-2.set.now c.rrsets-rrsets.ensures c.in-Some-numbered-2.ensures)
    (c.in_ok-clone.ensures.cases ∙ c.owner.ensures) c.rtype.ensures (c.in_ok-clone-2.ensures.cases ∙ c.owner-2.ensures)
