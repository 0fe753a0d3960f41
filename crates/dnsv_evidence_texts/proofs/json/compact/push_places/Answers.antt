use Rattle.std.proofs.Common.{get_or, string_bytes}
use Rattle.dnsv_compact.specs.declared.place.Place.{Place}
use Rattle.dnsv_lines.proofs.JsonLemmas.{Parted-next, any_default}
use Rattle.dnsv_evidence_texts.proofs.json.compact.push_places.Goals as goal

abbrev nothing : Place
nothing = record { key = 0; rrset = 0; signature = 0 }

pub loop-place-preserved : goal.loop-place-preserved
loop-place-preserved c =
    Parted-next c.loop-place.invariant (get_or c.args.places.now c.loop-place.place-index nothing) c.push_place.new.first
    (string_bytes c.push_place.new.text) c.loop-place-test.true
    (λ d. any_default c.args.places.now c.loop-place.place-index d nothing c.loop-place-test.true)
    c.in_ok-push_place.ensures.text c.in_ok-push_place.ensures.first
