use Rattle.std.proofs.Common.{◌≡◌, ◌++◌, length}
use Rattle.dnsv_canonical.proofs.rrset.to_rrsets.Given as goal

-- the RRsets so far, and those that are left
abbrev pub invariant-loop-each : goal.invariant-loop-each
invariant-loop-each l =
    (l.rrsets.items ++ l.each-iterator.rest.items ≡ l.fn.received.items)
    × (l.each-iterator.rest.len ≡ length l.each-iterator.rest.items)
