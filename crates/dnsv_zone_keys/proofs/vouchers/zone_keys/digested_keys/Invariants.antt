use Rattle.std.proofs.Common.{◌≡◌, ◌++◌, length}
use Rattle.dnsv_zone_keys.proofs.vouchers.zone_keys.digested_keys.Given as goal

-- the keys so far, and those that are left
abbrev pub invariant-loop-each : goal.invariant-loop-each
invariant-loop-each l =
    (l.keys.items ++ l.each-iterator.rest.items ≡ l.fn.placed.items) × (l.each-iterator.rest.len ≡ length l.each-iterator.rest.items)
