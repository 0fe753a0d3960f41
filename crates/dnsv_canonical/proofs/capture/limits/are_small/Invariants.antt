use Rattle.std.proofs.Common.{take}
use Rattle.std.specs.List.{AllByRecursion}
use Rattle.dnsv_canonical.specs.Evidence.{IsSmall}
use Rattle.dnsv_canonical.proofs.capture.limits.are_small.Given as goal

-- the RRsets so far are within their limits
abbrev pub invariant-loop-rrset : goal.invariant-loop-rrset
invariant-loop-rrset l =
    AllByRecursion IsSmall (take l.rrset-index l.rrsets)
