use Rattle.std.proofs.Common.{sym, subst}
use Rattle.dnsv_lines.specs.declared.line.fault.signature.ShownSignature.{ShownSignature}
use Rattle.dnsv_trust_reasons.specs.Places.{IsShown}
use Rattle.dnsv_trust_reasons.proofs.PlaceLemmas.{none_shown, some_shown}
use Rattle.dnsv_trust_reasons.proofs.signature.shown.Goals as goal

pub returns-in_default-numbered : goal.returns-in_default-numbered
returns-in_default-numbered c =
    none_shown c.args.capture.now.rrsets c.args.number c.in-Some.rrset.now c.signatures.result.now c.in-Some.ensures c.signatures.ensures
    c.in_default-numbered.ensures

pub returns : goal.returns
returns c =
    subst (λ (shown : ShownSignature). IsShown c.args.capture.now.rrsets c.args.number shown) (sym c.shown_of.ensures)
    (some_shown c.args.capture.now.rrsets c.args.number c.in-Some.rrset.now c.signatures.result.now c.in-Some.ensures c.signatures.ensures
    c.in-Some-numbered.rrsig.now c.in-Some-numbered.ensures)
