use Rattle.std.proofs.Common.{arith}
use Rattle.dnsv_compact.proofs.PlaceLemmas.{contains_at, its_key, places_all, places_more}
use Rattle.dnsv_compact.proofs.list.places_of.Goals as goal

pub place_of-requires-clause-among : goal.place_of-requires-clause-among
place_of-requires-clause-among c =
    its_key c.args.entries.now c.args.keys.now c.at.result c.requires.keys
    (contains_at c.args.entries.now c.loop-place.place c.at.result (omega (arith, c.loop-place-test.true, c.len-place-end.ensures)) c.at.ensures)

pub place_of-requires-clause-given : goal.place_of-requires-clause-given
place_of-requires-clause-given c =
    c.requires.given c.at.result
    (contains_at c.args.entries.now c.loop-place.place c.at.result (omega (arith, c.loop-place-test.true, c.len-place-end.ensures)) c.at.ensures)

pub loop-place-preserved : goal.loop-place-preserved
loop-place-preserved c = λ from to rrsets are.
    places_more from to rrsets c.args.keys.now c.args.entries.now c.loop-place.place c.at.result _ _ c.place_of.result
    (omega (arith, c.loop-place-test.true, c.len-place-end.ensures)) c.at.ensures c.in_ok-push.ensures.items (c.place_of.ensures from to rrsets are)
    (c.loop-place.invariant from to rrsets are)

pub returns : goal.returns
returns c = λ from to rrsets are.
    places_all from to rrsets c.args.keys.now c.args.entries.now c.loop-place.place c.loop-place.places.items
    (omega (arith, c.loop-place-test.false, c.len-place-end.ensures)) (c.loop-place.invariant from to rrsets are)
