-- The digest type whose records count in a DS RRset, and how it is found (RFC 4509 3).
use Rattle.std.specs.Prelude.{◌≡◌, ℕ, List, Option, Some, None, Contains, IsTrue}
use Rattle.dnsv_records.specs.Algorithm.{is_supported}
use Rattle.dnsv_records.specs.declared.ds.Ds.{Ds}
use Rattle.dnsv_records.specs.declared.number.DigestType.{DigestType}
use Rattle.dnsv_anchors.specs.Ds.{GoesBefore, IsSupported}

-- the number is of a record's digest type that is supported, and no record's goes before it
pub record Leads (records : List Ds) (number : ℕ) : Type 0 where
  pub supported : IsSupported number
  pub ds : Ds
  pub among : Contains records ds
  pub is : ds.digest_type.0 ≡ number
  pub first : (other : Ds) → Contains records other → ¬ GoesBefore other.digest_type.0 number

-- the digest type that leads, or that no record has one that is supported
abbrev pub IsLeading : List Ds → Option DigestType → Type 0
IsLeading records None = (ds : Ds) → Contains records ds → ¬ IsSupported ds.digest_type.0
IsLeading records (Some digest_type) = Leads records digest_type.0

-- a digest type takes the place of the one that led so far
abbrev pub TakesOver : ℕ → Option DigestType → Type 0
TakesOver number None = IsSupported number
TakesOver number (Some leading) = GoesBefore number leading.0

-- a record has the digest type, and an algorithm that is supported
pub record HasSupported (records : List Ds) (number : ℕ) : Type 0 where
  pub ds : Ds
  pub among : Contains records ds
  pub is : ds.digest_type.0 ≡ number
  pub algorithm : IsTrue (is_supported ds.algorithm.0)
