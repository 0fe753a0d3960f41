-- Lists of what is so of some of many.
use Rattle.std.specs.Prelude.{◌≡◌, ◌⊎◌, ◌↔◌, ℕ, List, [], ◌∷◌, ◌++◌, Contains, map}
use Rattle.std.specs.List.{AllByRecursion}
use Rattle.std.specs.List.Sorted.{IsStrictlySortedBy}
use Rattle.std.specs.Ordering.{nat_cmp}

-- one for each number that is such, by their numbers
pub record AreOfNumbers {X : Type 0} (number : X → ℕ) (Such : ℕ → Type 0) (Is : X → Type 0) (xs : List X) : Type 0 where
  pub rising : IsStrictlySortedBy nat_cmp (map number xs)
  pub each : AllByRecursion Is xs
  pub members : (n : ℕ) → Contains (map number xs) n ↔ Such n

-- one that is so is added where it is such, and else none
abbrev pub AddsWhere : {X : Type 0} → Type 0 → (X → Type 0) → List X → List X → Type 0
AddsWhere {X} Such Is old new = (Such × ((x : X) × Is x × (new ≡ old ++ x ∷ []))) ⊎ ((¬ Such) × (new ≡ old))
