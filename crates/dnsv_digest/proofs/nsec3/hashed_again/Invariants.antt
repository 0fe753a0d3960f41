use Rattle.std.proofs.Common.{◌≡◌, ◌++◌, List, ℕ}
use Rattle.sha1.specs.Sha1.{sha1}
use Rattle.dnsv_digest.specs.Nsec3Hash.{iterated_hash}
use Rattle.dnsv_digest.proofs.DigestLemmas.{StandsBehind}
use Rattle.dnsv_digest.proofs.nsec3.hashed_again.Given as goal

-- the hash is the one after so many iterations, and what fits of the salt stands behind the hash's place
abbrev pub invariant-loop : goal.invariant-loop
invariant-loop l =
    ((x : List ℕ) → l.fn.first ≡ sha1 (x ++ l.salt) → l.hash ≡ iterated_hash l.salt x l.counter)
    × StandsBehind 20 l.beside l.joined l.salt
