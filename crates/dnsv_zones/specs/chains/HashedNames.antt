-- The hashes of names by SHA-1, and those of the names that a question asks for (RFC 5155 5).
use Rattle.std.specs.Prelude.{◌≡◌, ℕ, ◌+◌, ◌*◌, ◌<◌, List, Some, length, slice_get}
use Rattle.std.specs.List.{sum_by}
use Rattle.std.proofs.Common.{ap}
use Rattle.dnsv_names.specs.Name.{Labels, wire, rightmost}
use Rattle.dnsv_names.specs.Tree.{wildcard_of}
use Rattle.dnsv_records.specs.declared.nsec3.Nsec3Parameters.{Nsec3Parameters}
use Rattle.dnsv_digest.specs.Nsec3Hash.{iterated_hash, nsec3_hash_of}
use Rattle.dnsv_zones.specs.chains.Nsec3Chain.{Parameters, NameHash}

-- the hash of names with these parameters, the one hash that NSEC3 has (RFC 5155 5, 11)
abbrev pub sha1_hash : Parameters → NameHash
sha1_hash parameters = record {
  parameters = parameters;
  of = λ name. nsec3_hash_of name parameters.salt parameters.iterations;
  respects_case = λ a b same. ap (λ lower. iterated_hash parameters.salt (wire lower) parameters.iterations) same;
}

-- the list has so many values, which are those of the numbers from 0 on
pub record AreEach {X : Type 0} (of : ℕ → X) (count : ℕ) (values : List X) : Type 0 where
  pub same_count : length values ≡ count
  pub each : (n : ℕ) → n < count → slice_get values n ≡ Some (of n)

-- The hashes of a name's rightmost labels, from none of them to all, and those of the wildcards right below its
-- proper ancestors.
pub record AreHashes (hash : NameHash) (name : Labels) (above wildcards : List (List ℕ)) : Type 0 where
  pub each_above : AreEach (λ n. hash.of (rightmost name n)) (length name + 1) above
  pub each_wildcard : AreEach (λ n. hash.of (wildcard_of (rightmost name n))) (length name) wildcards

-- How many hashes a question of the name makes with these parameters: with each of them, once more than the iterations
-- for the name, each of its ancestors and each wildcard right below one of its proper ancestors (RFC 5155 5).
abbrev pub hashes_for : Labels → List Nsec3Parameters → ℕ
hashes_for name all = sum_by (λ each. (2 * length name + 1) * (each.iterations.0 + 1)) all
