-- That some member of a list is such, by recursion on the list.
use Rattle.std.specs.Prelude.{◌≡◌, ◌⊎◌, List, [], ◌∷◌}
use Rattle.std.specs.List.{AllByRecursion}

abbrev pub Any : {X : Type 0} → (X → Type 0) → List X → Type 0
Any P [] = ⊥
Any P (x ∷ xs) = P x ⊎ Any P xs

-- each of the few is among the many
abbrev pub AreAmong : {X : Type 0} → List X → List X → Type 0
AreAmong few many = AllByRecursion (λ x. Any (λ each. each ≡ x) many) few
