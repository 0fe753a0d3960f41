use Rattle.std.proofs.Common.{ℕ, List, ◌++◌, ◌≤◌, length, take}
use Rattle.dnsv_canonical.specs.Evidence.{AreParameters, nsec3_rdata}
use Rattle.dnsv_canonical.proofs.capture.limits.fresh_parameters.Given as goal

-- the pairs of the RRsets so far
abbrev pub invariant-loop-rrset : goal.invariant-loop-rrset
invariant-loop-rrset l =
    record {
      all : (earlier : List (List ℕ)) → AreParameters earlier l.kept → AreParameters (earlier ++ nsec3_rdata (take l.rrset-index l.rrsets)) (l.kept ++ l.fresh.items);
      few : length l.kept ≤ 8 → length (l.kept ++ l.fresh.items) ≤ 8;
    }
