use Rattle.std.proofs.Common.{◌≡◌, drop, flat_map, map}
use Rattle.std.specs.Option.{option_map}
use Rattle.dnsv_mending.specs.Keys.{fitting_way, seen_signing}
use Rattle.dnsv_mending.specs.Mend.{cheapest_from, seen}
use Rattle.dnsv_mending.proofs.keys.offer_keys.Given as goal

-- those that are left, after what was offered
abbrev pub invariant-loop-key : goal.invariant-loop-key
invariant-loop-key l = cheapest_from (option_map seen l.best) (flat_map (fitting_way (option_map (λ m. seen m.now) l.chain) l.voucher) (map seen_signing (drop l.key-index l.keys)))
    ≡ cheapest_from (option_map seen l.fn.best) (flat_map (fitting_way (option_map (λ m. seen m.now) l.chain) l.voucher) (map seen_signing l.keys))
