use Rattle.std.proofs.Common.{◌≡◌, map, take}
use Rattle.dnsv_compact.proofs.named.all_rrsets.Given as goal

-- the RRsets of the places so far
abbrev pub invariant-loop-place : goal.invariant-loop-place
invariant-loop-place l = l.rrsets.items ≡ map (λ place. place.rrset) (take l.place-index l.places)
