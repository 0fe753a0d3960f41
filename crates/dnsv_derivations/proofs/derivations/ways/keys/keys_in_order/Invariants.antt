use Rattle.std.proofs.Common.{◌≡◌, map, take}
use Rattle.dnsv_derivations.specs.derivations.WaySearch.{key_of}
use Rattle.dnsv_derivations.proofs.derivations.ways.keys.keys_in_order.Given as goal

-- the keys so far
abbrev pub invariant-loop-each : goal.invariant-loop-each
invariant-loop-each l =
    l.keys.items ≡ map (λ each. key_of l.set.owner each.rdata.now each.record.now) (take l.each-index l.each-items)
