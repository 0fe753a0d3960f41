use Rattle.std.specs.Option.{option_map}
use Rattle.dnsv_mending.specs.Keys.{fitting_way, seen_signing}
use Rattle.dnsv_mending.specs.Mend.{seen}
use Rattle.dnsv_mending.proofs.Lists.{offered_mapped}
use Rattle.dnsv_mending.proofs.keys.offer_keys.Goals as goal

pub loop-key-preserved : goal.loop-key-preserved
loop-key-preserved c =
    offered_mapped seen_signing (fitting_way (option_map (λ m. seen m.now) c.args.chain) c.args.voucher.now) c.args.keys.now
    c.loop-key.key-index _ _ _ _ _ c.loop-key-test.true c.key-item.is c.in_ok-offer_fitting.ensures c.loop-key.invariant
