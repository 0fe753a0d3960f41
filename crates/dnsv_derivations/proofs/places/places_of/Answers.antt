use Rattle.std.proofs.Common.{refl}
use Rattle.dnsv_derivations.proofs.lemmas.PlaceLemmas.{placed_more}
use Rattle.dnsv_derivations.proofs.places.places_of.Goals as goal

pub loop-number-preserved : goal.loop-number-preserved
loop-number-preserved c =
    placed_more c.args.rrsets.now c.args.numbers.now c.loop-number.number-index _ _ _ c.loop-number-test.true refl
    c.loop-number.invariant c.in_ok-push_place.ensures
