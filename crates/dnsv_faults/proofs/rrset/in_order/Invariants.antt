use Rattle.std.proofs.Common.{◌≡◌, map, take}
use Rattle.std.specs.List.{AllByRecursion, enumerate_from}
use Rattle.dnsv_faults.specs.Rrsets.RrsetSearch.{IsSignatureOf, seen_signature}
use Rattle.dnsv_faults.proofs.rrset.in_order.Given as goal

-- the signatures so far
abbrev pub invariant-loop-place : goal.invariant-loop-place
invariant-loop-place l =
    (map seen_signature l.order.items ≡ enumerate_from 1 (take l.place l.rrsig-items)) × AllByRecursion (IsSignatureOf l.rrset) l.order.items
