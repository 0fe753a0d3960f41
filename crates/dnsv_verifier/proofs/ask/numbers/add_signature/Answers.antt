use Rattle.std.proofs.Common.{◌≡◌, ◌<◌, List, length, sym, ap, subst}
use Rattle.dnsv_verifier.specs.Asking.{GivesMore, IsAny, NumberedName}
use Rattle.dnsv_verifier.specs.Numbers.{IsNumberedSignature, signature_of}
use Rattle.dnsv_verifier.proofs.NumberedLemmas.{gives_pushed}
use Rattle.dnsv_verifier.proofs.ask.numbers.add_signature.Goals as goal

pub returns : goal.returns
returns c = λ parts its.
    let made = c.args.made.now in
    let it : IsNumberedSignature parts made c.with_number.result = record {
      same = ap (λ (each : NumberedName). each.name) c.with_number.ensures;
      value = subst (λ (each : NumberedName). signature_of parts each.number ≡ made.part) (sym c.with_number.ensures) its.value;
      within = subst (λ (each : NumberedName). each.number < length parts.signatures) (sym c.with_number.ensures) its.within;
    } in
    subst (λ (numbered : List NumberedName). GivesMore (IsNumberedSignature parts) IsAny made c.args.numbered.now.items numbered) (sym c.in_ok-push.ensures.items)
    (gives_pushed (IsNumberedSignature parts) IsAny made c.args.numbered.now.items c.with_number.result it)
