use Rattle.std.proofs.Common.{refl, length, arith}
use Rattle.std.proofs.lemmas.Option.{slice_get_read}
use Rattle.dnsv_proof_forms.proofs.lemmas.records.HashPlaceLemmas.{all_places, no_places, place_more}
use Rattle.dnsv_proof_forms.proofs.records.hash_places.hash_places.Goals as goal

pub loop-place-init : goal.loop-place-init
loop-place-init c = rw c.new-places.ensures.items (no_places c.args.entries.now)

pub loop-place-preserved : goal.loop-place-preserved
loop-place-preserved c = rw c.in_ok-push.ensures.items
    (place_more c.args.entries.now c.loop-place.place c.loop-place.places.items c.index-entries-place.result _
    (slice_get_read c.args.entries.now (length c.args.entries.now) c.loop-place.place c.index-entries-place.result refl c.loop-place-test.true c.index-entries-place.is)
    refl refl refl c.loop-place.invariant)

pub returns : goal.returns
returns c = all_places c.args.entries.now c.loop-place.place c.loop-place.places.items (omega (arith, c.loop-place-test.false)) c.loop-place.invariant
