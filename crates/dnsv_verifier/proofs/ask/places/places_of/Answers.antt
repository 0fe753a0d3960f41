use Rattle.std.proofs.Common.{◌≡◌, ◌<◌, List, get_or, length, refl, rules, sym, ap, subst}
use Rattle.dnsv_canonical.specs.declared.number.SignatureNumber.{SignatureNumber}
use Rattle.dnsv_verifier.specs.Asking.{MadeSignature}
use Rattle.dnsv_verifier.specs.Numbers.{ArePlaces}
use Rattle.dnsv_verifier.specs.declared.table.place.SignaturePlace.{SignaturePlace}
use Rattle.dnsv_verifier.proofs.PlaceLemmas.{place_more}
use Rattle.dnsv_verifier.proofs.ask.places.places_of.Goals as goal

pub loop-place-preserved : goal.loop-place-preserved
loop-place-preserved c = λ rrsets parts are its.
    let made = c.args.made.now in
    let i = c.loop-place.place in
    let first : SignatureNumber = record { rrset = 0; signature = 0 } in
    let numbers : c.deref-number-items.result.now ≡ made.numbers.items = c.deref-number-items.ensures.value in
    let within : i < length made.numbers.items = subst (λ (ns : List SignatureNumber). i < length ns) numbers c.loop-place-test.true in
    let m = c.index.result.now in
    let there : get_or made.signatures.items i m ≡ m = search rules in
    subst (λ (places : List SignaturePlace). ArePlaces rrsets parts places) (sym c.in_ok-push.ensures.items)
    (place_more rrsets parts made.numbers.items made.signatures.items c.args.found.now are its i c.loop-place.places.items _ m first 0 within
    (ap (λ (ns : List SignatureNumber). get_or ns i first) numbers) there (ap (λ (each : MadeSignature). each.rrsig.algorithm) c.behind-made.view_is) refl
    (c.loop-place.invariant rrsets parts are its))
