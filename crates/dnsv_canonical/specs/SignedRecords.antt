-- Signed records one after another. No public clause cites this module.
use Rattle.std.specs.Prelude.{◌≡◌, List, ℕ, ◌++◌, length}
use Rattle.std.specs.Int.{w16, to_be_bytes}
use Rattle.std.specs.List.{flat_map}
use Rattle.dnsv_canonical.specs.Canonical.{IsCanonical}

-- behind what was there each RDATA of the canonical list, with what begins each record, and its length
pub record AddsSigned (front : List ℕ) (forms : List (List ℕ)) (old new : List ℕ) : Type 0 where
  pub canonical : List (List ℕ)
  pub are : IsCanonical forms canonical
  pub added : new ≡ old ++ flat_map (λ rdata. front ++ to_be_bytes w16 (length rdata) ++ rdata) canonical
