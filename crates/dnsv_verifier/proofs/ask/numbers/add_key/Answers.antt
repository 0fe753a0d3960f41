use Rattle.std.proofs.Common.{◌≡◌, ◌<◌, List, length, sym, ap, subst}
use Rattle.dnsv_verifier.specs.Asking.{CanSign, GivesMore, NumberedName}
use Rattle.dnsv_verifier.specs.Numbers.{IsNumberedKey, key_of, part_of_key}
use Rattle.dnsv_verifier.proofs.NumberedLemmas.{gives_nothing, gives_pushed}
use Rattle.dnsv_verifier.proofs.ask.numbers.add_key.Goals as goal

pub returns-then-not-can_sign : goal.returns-then-not-can_sign
returns-then-not-can_sign c =
    gives_nothing (IsNumberedKey c.args.parts.now) CanSign c.args.key.now _
    (λ signs. let holds = c.can_sign.ensures.1 signs in let fails = c.if-not-can_sign.true in cc)

pub returns : goal.returns
returns c =
    let parts = c.args.parts.now in
    let key = c.args.key.now in
    let it : IsNumberedKey parts key c.with_number.result = record {
      signs = c.can_sign.ensures.0 c.if-not-can_sign.false;
      same = ap (λ (each : NumberedName). each.name) c.with_number.ensures;
      value = subst (λ (each : NumberedName). key_of parts each.number ≡ part_of_key key) (sym c.with_number.ensures) c.number_in.ensures.value;
      within = subst (λ (each : NumberedName). each.number < length parts.keys) (sym c.with_number.ensures) c.number_in.ensures.within;
    } in
    subst (λ (numbered : List NumberedName). GivesMore (IsNumberedKey parts) CanSign key c.args.numbered.now.items numbered) (sym c.in_ok-push.ensures.items)
    (gives_pushed (IsNumberedKey parts) CanSign key c.args.numbered.now.items c.with_number.result it)
