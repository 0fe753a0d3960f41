use Rattle.std.proofs.Common.{◌≡◌, ◌+◌, ◌-◌, ◌++◌, map, take}
use Rattle.dnsv_canonical.proofs.capture.index.merged.push_moved.Given as goal

-- the places so far
abbrev pub invariant-loop-place : goal.invariant-loop-place
invariant-loop-place l =
    l.starts.items ≡ l.fn.starts.items ++ map (λ place. l.to + (place - l.from)) (take l.place-index l.places)
