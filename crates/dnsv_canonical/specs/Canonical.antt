-- The RDATA of an RRset in canonical order (RFC 4034 6.3).
use Rattle.std.specs.Prelude.{◌↔◌, ℕ, List, Contains}
use Rattle.std.specs.declared.cmp.Ordering.{Ordering}
use Rattle.std.specs.Ordering.{nat_cmp}
use Rattle.std.specs.Cmp.Lexicographic.{slice_cmp}
use Rattle.std.specs.List.Sorted.{IsStrictlySortedBy}

-- RDATA is ordered as unsigned octets from the left, a missing octet before any other
abbrev pub rdata_cmp : List ℕ → List ℕ → Ordering
rdata_cmp = slice_cmp nat_cmp

-- `canonical` rises strictly, so that each RDATA stands in it once, and its members are those of `received`
pub record IsCanonical (received canonical : List (List ℕ)) : Type 0 where
  pub rising : IsStrictlySortedBy rdata_cmp canonical
  pub members : (rdata : List ℕ) → Contains canonical rdata ↔ Contains received rdata
