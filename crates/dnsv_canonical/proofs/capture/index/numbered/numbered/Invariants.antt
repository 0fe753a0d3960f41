use Rattle.std.proofs.Common.{◌≡◌, ◌+◌, take}
use Rattle.std.specs.List.{enumerate_from}
use Rattle.dnsv_canonical.proofs.capture.index.numbered.numbered.Given as goal

-- the RRsets so far
abbrev pub invariant-loop-place : goal.invariant-loop-place
invariant-loop-place l = l.numbered.items ≡ enumerate_from (l.others + 1) (take l.place l.rrsets)
