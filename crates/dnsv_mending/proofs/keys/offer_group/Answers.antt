use Rattle.std.proofs.Common.{map}
use Rattle.std.specs.Option.{option_map}
use Rattle.dnsv_mending.specs.Keys.{seen_signing, voucher_ways}
use Rattle.dnsv_mending.specs.Mend.{seen}
use Rattle.dnsv_mending.proofs.Lists.{offered_next}
use Rattle.dnsv_mending.proofs.keys.offer_group.Goals as goal

pub loop-voucher-preserved : goal.loop-voucher-preserved
loop-voucher-preserved c =
    offered_next (voucher_ways (option_map (λ m. seen m.now) c.args.chain) c.is_served-served.result (map seen_signing c.args.keys.now))
    c.args.group.now c.loop-voucher.voucher-index _ _ _ _ _ c.loop-voucher-test.true c.voucher-item.is
    c.in_ok-offer_voucher.ensures c.loop-voucher.invariant
