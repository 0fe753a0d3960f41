use Rattle.std.proofs.Common.{◌≡◌, drop, flat_map, map}
use Rattle.std.specs.Option.{option_map}
use Rattle.dnsv_mending.specs.Keys.{seen_signing, voucher_ways}
use Rattle.dnsv_mending.specs.Mend.{cheapest_from, seen}
use Rattle.dnsv_mending.proofs.keys.offer_group.Given as goal

-- those that are left, after what was offered
abbrev pub invariant-loop-voucher : goal.invariant-loop-voucher
invariant-loop-voucher l = cheapest_from (option_map seen l.best) (flat_map (voucher_ways (option_map (λ m. seen m.now) l.chain) l.served (map seen_signing l.keys)) (drop l.voucher-index l.group))
    ≡ cheapest_from (option_map seen l.fn.best) (flat_map (voucher_ways (option_map (λ m. seen m.now) l.chain) l.served (map seen_signing l.keys)) l.group)
