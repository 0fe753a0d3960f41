use Rattle.std.proofs.Common.{◌≡◌, drop, map}
use Rattle.dnsv_chain.specs.Trust.{keys_among}
use Rattle.dnsv_chain.proofs.trust.keys_among.Given as goal

-- the zone isn't among those so far
abbrev pub invariant-loop-each : goal.invariant-loop-each
invariant-loop-each l =
    keys_among (map (λ each. (each.zone, each.keys.items)) l.zones) l.zone
    ≡ keys_among (map (λ each. (each.zone, each.keys.items)) (drop l.each-index l.zones)) l.zone
