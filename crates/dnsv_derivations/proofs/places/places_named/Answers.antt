use Rattle.std.proofs.Common.{List, ℕ, subst}
use Rattle.dnsv_canonical.specs.Rrsets.{ReceivedRrset}
use Rattle.dnsv_derivations.specs.Places.{ArePlacedBy}
use Rattle.dnsv_derivations.proofs.lemmas.PlaceLemmas.{are_places}
use Rattle.dnsv_derivations.proofs.places.places_named.Goals as goal

pub returns : goal.returns
returns c =
    let places = c.in_ok-places_of.field-0.items in
    let Of : List ReceivedRrset → Type 0 = λ rrsets. ArePlacedBy rrsets c.deref.result.now places in
    let By : List ℕ → Type 0 = λ numbers. ArePlacedBy c.args.capture.now.rrsets numbers places in
    are_places c.args.capture.now.rrsets c.args.lines.now c.in_ok-numbers.numbers.items places
    c.in_ok-numbers.ensures.rising c.in_ok-numbers.ensures.members
    (subst By c.deref.ensures.value (subst Of c.rrsets.ensures.value c.in_ok-places_of.ensures))
