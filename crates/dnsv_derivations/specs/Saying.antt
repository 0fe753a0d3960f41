-- Lines that are said one after another, each step behind the lines that were said before it.
use Rattle.std.specs.Prelude.{◌≡◌, ◌⊎◌, List, [], ◌∷◌, ◌++◌}
use Rattle.dnsv_lines.specs.declared.line.Line.{Line}

-- the lines of the second step are behind those of the first
pub record AreBoth (First Second : List Line → List Line → Type 0) (before lines : List Line) : Type 0 where
  pub first : List Line
  pub second : List Line
  pub parts : lines ≡ first ++ second
  pub says_first : First before first
  pub says_second : Second (before ++ first) second

-- a step for each, in order
abbrev pub AreEach : {X : Type 0} → (X → List Line → List Line → Type 0) → List X → List Line → List Line → Type 0
AreEach {X} Says [] before lines = lines ≡ []
AreEach {X} Says (x ∷ xs) before lines = AreBoth (Says x) (AreEach Says xs) before lines

-- the line, but for where a line before says the same
abbrev pub IsOnce : (List Line → Type 0) → Line → List Line → List Line → Type 0
IsOnce IsSaid line before lines = (IsSaid before × (lines ≡ [])) ⊎ ((¬ IsSaid before) × (lines ≡ line ∷ []))

-- the lines of the step were added
pub record Adds (Says : List Line → List Line → Type 0) (old new : List Line) : Type 0 where
  pub more : List Line
  pub is : new ≡ old ++ more
  pub says : Says old more
