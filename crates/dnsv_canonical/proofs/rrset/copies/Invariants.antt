use Rattle.std.proofs.Common.{◌≡◌, take, map}
use Rattle.dnsv_canonical.proofs.rrset.copies.Given as goal

-- the octets so far
abbrev pub invariant-loop-octets : goal.invariant-loop-octets
invariant-loop-octets l =
    map (λ r. r.items) l.copies.items ≡ map (λ r. r.now) (take l.octets-index l.slices)
