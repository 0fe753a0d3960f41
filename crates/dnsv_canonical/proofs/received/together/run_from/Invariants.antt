use Rattle.std.proofs.Common.{◌≤◌, ◌-◌, ◌∷◌, length, map, take}
use Rattle.dnsv_canonical.specs.Runs.{IsRun}
use Rattle.dnsv_canonical.proofs.received.together.run_from.Given as goal

-- the records so far speak of this RRset alone
abbrev pub invariant-loop-count : goal.invariant-loop-count
invariant-loop-count l =
    IsRun l.first (l.first ∷ take l.count l.behind) (map (λ r. r.now) l.rdata.items) (map (λ r. r.now) l.signatures.items) × (l.count ≤ length l.behind)

abbrev pub decreases-loop-count : goal.decreases-loop-count
decreases-loop-count l = length l.behind - l.count
