use Rattle.std.proofs.Common.{◌≡◌, ◌++◌, length, take, map}
use Rattle.std.specs.Int.{w16, to_be_bytes}
use Rattle.std.specs.List.{flat_map}
use Rattle.dnsv_canonical.proofs.signed.push_in_order.Given as goal

-- the records of the RDATA so far
abbrev pub invariant-loop-rdata : goal.invariant-loop-rdata
invariant-loop-rdata l =
    l.octets.items ≡ l.fn.octets.items ++ flat_map (λ rdata. l.front ++ to_be_bytes w16 (length rdata) ++ rdata) (map (λ r. r.now) (take l.rdata-index l.rdata-items))
