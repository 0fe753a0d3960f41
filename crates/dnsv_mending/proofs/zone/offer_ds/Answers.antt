use Rattle.std.proofs.Common.{map}
use Rattle.std.specs.Option.{option_map}
use Rattle.dnsv_mending.specs.Keys.{seen_signing}
use Rattle.dnsv_mending.specs.Mend.{seen}
use Rattle.dnsv_mending.proofs.Lists.{ds_next}
use Rattle.dnsv_mending.proofs.zone.offer_ds.Goals as goal

pub loop-place-preserved : goal.loop-place-preserved
loop-place-preserved c =
    ds_next (map seen_signing c.args.keys.now) (map (option_map seen) c.args.chains.now) c.args.ds.now c.loop-place.place _ _ _ _ _
    c.loop-place-test.true c.index-ds-place.is c.in_ok-offer_records.ensures c.loop-place.invariant
