use Rattle.std.proofs.Common.{◌≡◌, map, take}
use Rattle.dnsv_compact.specs.Named.{named_at}
use Rattle.dnsv_compact.proofs.named.all_named.Given as goal

-- what the places so far name
abbrev pub invariant-loop-place : goal.invariant-loop-place
invariant-loop-place l = l.named.items ≡ map named_at (take l.place-index l.places)
