-- What the entry at a place of a list says.
use Rattle.std.specs.Prelude.{◌≡◌, ◌↔◌, ℕ, Contains, List, Option, Some, MatchOption, slice_get}
use Rattle.std.specs.List.Sorted.{IsStrictlySortedBy}
use Rattle.std.specs.Ordering.{nat_cmp}
use Rattle.dnsv_zones.specs.forms.Parts.{IsFirstToSay}

-- the entry at the place is such
pub record IsSaidAt {Entry : Type 0} (Says : Entry → Type 0) (entries : List Entry) (place : ℕ) : Type 0 where
  pub entry : Entry
  pub there : slice_get entries place ≡ Some entry
  pub says : Says entry

-- the place is the first where it is so, or it is so at none
abbrev pub IsFirstPlace : (ℕ → Type 0) → Option ℕ → Type 0
IsFirstPlace Says found = MatchOption found ((place : ℕ) → ¬ Says place) (IsFirstToSay nat_cmp Says)

-- the places are all those where it is so, rising
pub record AreAllPlaces (Says : ℕ → Type 0) (places : List ℕ) : Type 0 where
  pub rising : IsStrictlySortedBy nat_cmp places
  pub members : (place : ℕ) → Contains places place ↔ Says place
