-- the hashes so far, and their count
use Rattle.std.proofs.Common.{◌≡◌, ◌+◌, ◌*◌}
use Rattle.dnsv_names.specs.Count.{counted}
use Rattle.dnsv_names.specs.Name.{rightmost}
use Rattle.dnsv_zones.specs.chains.HashedNames.{sha1_hash, AreEach}
use Rattle.dnsv_zones.specs.chains.Rdata.{parameters_of}
use Rattle.dnsv_zones.proofs.hashing.hash_above.Given as goal

abbrev pub invariant-loop-labels : goal.invariant-loop-labels
invariant-loop-labels l =
    AreEach (λ n. (sha1_hash (parameters_of l.parameters)).of (rightmost l.name n)) l.labels l.hashes.items
    × (l.count ≡ counted l.initial.count (l.labels * (l.parameters.iterations.0 + 1)))
