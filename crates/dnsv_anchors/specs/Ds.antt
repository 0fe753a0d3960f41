-- Which records of a DS RRset count (RFC 4509 3).
pub mod DsReading
use Rattle.std.specs.Prelude.{◌≡◌, ℕ, List, Some, Contains, IsTrue}
use Rattle.dnsv_records.specs.Algorithm.{is_supported}
use Rattle.dnsv_records.specs.declared.ds.Ds.{Ds}
use Rattle.dnsv_digest.specs.DigestAlgorithm.{IsStronger, digest_algorithm_of}
use Rattle.dnsv_digest.specs.declared.digest_algorithm.DigestAlgorithm.{DigestAlgorithm}

-- a digest type with the number is supported
abbrev pub IsSupported : ℕ → Type 0
IsSupported number = (supported : DigestAlgorithm) × (digest_algorithm_of number ≡ Some supported)

-- the digest type with the number a goes before that with the number b; a number that isn't supported has no place
abbrev pub GoesBefore : ℕ → ℕ → Type 0
GoesBefore a b =
    (stronger : DigestAlgorithm) × (weaker : DigestAlgorithm)
    × (digest_algorithm_of a ≡ Some stronger) × (digest_algorithm_of b ≡ Some weaker) × IsStronger stronger weaker

-- A record of a DS RRset is ignored beside a record of the same RRset whose digest type goes before its own, whatever
-- the algorithm of that one is (RFC 4509 3).
pub record IsIgnored (records : List Ds) (ds : Ds) : Type 0 where
  pub other : Ds
  pub among : Contains records other
  pub before : GoesBefore other.digest_type.0 ds.digest_type.0

-- A record of a DS RRset is usable where its algorithm and its digest type are supported, and it isn't ignored.
pub record IsUsable (records : List Ds) (ds : Ds) : Type 0 where
  pub algorithm : IsTrue (is_supported ds.algorithm.0)
  pub digest_type : IsSupported ds.digest_type.0
  pub counts : ¬ IsIgnored records ds

-- a DS RRset has a usable record
pub record HasUsable (records : List Ds) : Type 0 where
  pub ds : Ds
  pub among : Contains records ds
  pub usable : IsUsable records ds
