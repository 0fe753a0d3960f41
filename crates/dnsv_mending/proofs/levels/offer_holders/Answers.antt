use Rattle.std.proofs.Common.{map, refl}
use Rattle.std.specs.Option.{option_map}
use Rattle.dnsv_mending.specs.Mend.{seen}
use Rattle.dnsv_mending.specs.Zone.{holder_ways}
use Rattle.dnsv_mending.proofs.Lists.{offered_next}
use Rattle.dnsv_mending.proofs.levels.offer_holders.Goals as goal

pub loop-place-preserved : goal.loop-place-preserved
loop-place-preserved c =
    offered_next (holder_ways (map (option_map seen) c.args.sets.now)) c.args.places.now c.loop-place.place-index _ _ _ _ _
    c.loop-place-test.true refl c.in_ok-offer_holder.ensures c.loop-place.invariant
