use Rattle.dnsv_canonical.specs.Evidence.{AreParameters}
use Rattle.dnsv_records.specs.Nsec3.{IsNsec3}
use Rattle.std.proofs.Common.{ℕ, List, ◌++◌, ◌≤◌, length, take}
use Rattle.std.specs.List.{AllZip}
use Rattle.dnsv_canonical.proofs.capture.limits.add_records.Given as goal

-- the pairs of the records so far
abbrev pub invariant-loop-nsec3 : goal.invariant-loop-nsec3
invariant-loop-nsec3 l =
    record {
      all : (earlier received : List (List ℕ)) → AllZip IsNsec3 received l.nsec3s → AreParameters earlier (l.kept ++ l.fn.fresh.items) → AreParameters (earlier ++ take l.nsec3-index received) (l.kept ++ l.fresh.items);
      few : length (l.kept ++ l.fn.fresh.items) ≤ 8 → length (l.kept ++ l.fresh.items) ≤ 8;
    }
