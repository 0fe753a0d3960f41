-- Lists of what is so.
use Rattle.std.specs.Prelude.{◌≡◌, ◌⊎◌, ◌+◌, ℕ, List, [], ◌∷◌, ◌++◌}
use Rattle.dnsv_derivations.specs.Saying.{Adds}
use Rattle.dnsv_lines.specs.declared.line.Line.{Line}

-- the first list, and then the second
pub record AreParted {X : Type 0} (First Second : List X → Type 0) (xs : List X) : Type 0 where
  pub first : List X
  pub second : List X
  pub parts : xs ≡ first ++ second
  pub is_first : First first
  pub is_second : Second second

-- a list for each, in order
abbrev pub AreOfEach : {X Y : Type 0} → (X → List Y → Type 0) → List X → List Y → Type 0
AreOfEach {X} {Y} Are [] ys = ys ≡ []
AreOfEach {X} {Y} Are (x ∷ xs) ys = AreParted (Are x) (AreOfEach Are xs) ys

-- a list for each, which has a number, in order
abbrev pub AreOfNumbered : {X Y : Type 0} → (ℕ → X → List Y → Type 0) → ℕ → List X → List Y → Type 0
AreOfNumbered {X} {Y} Are number [] ys = ys ≡ []
AreOfNumbered {X} {Y} Are number (x ∷ xs) ys = AreParted (Are number x) (AreOfNumbered Are (number + 1) xs) ys

-- the list where it is so, and else none
abbrev pub AreWhere : {X : Type 0} → Type 0 → (List X → Type 0) → List X → Type 0
AreWhere {X} Holds Are xs = (Holds × Are xs) ⊎ ((¬ Holds) × (xs ≡ []))

-- such lines were added
abbrev pub AddsThose : (List Line → Type 0) → List Line → List Line → Type 0
AddsThose Are = Adds (λ before lines. Are lines)
