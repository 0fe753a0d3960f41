-- Two lists whose items are alike, place by place: what is made of the items is equal.
use Rattle.std.proofs.Common.{◌≡◌, ◌++◌, ◌||◌, Bool, List, [], ◌∷◌, map, flat_map, refl}
use Rattle.std.specs.List.{AllZip, list_any}
use Rattle.dnsv_mending.specs.Mend.{is_none}

pub is_none-alike : {X : Type 0} (R : X → X → Type 0) (xs ys : List X) → AllZip R xs ys → is_none xs ≡ is_none ys
is_none-alike R [] [] e = refl
is_none-alike R [] (y ∷ ys) e = absurd e
is_none-alike R (x ∷ xs) [] e = absurd e
is_none-alike R (x ∷ xs) (y ∷ ys) e = refl

pub map-alike : {X Y : Type 0} (R : X → X → Type 0) (f g : X → Y) → ((x y : X) → R x y → f x ≡ g y) → (xs ys : List X)
    → AllZip R xs ys → map f xs ≡ map g ys
map-alike R f g same [] [] e = refl
map-alike R f g same [] (y ∷ ys) e = absurd e
map-alike R f g same (x ∷ xs) [] e = absurd e
map-alike R f g same (x ∷ xs) (y ∷ ys) e = λ i. same x y e.0 i ∷ map-alike R f g same xs ys e.1 i

pub flat_map-alike : {X Y : Type 0} (R : X → X → Type 0) (f g : X → List Y) → ((x y : X) → R x y → f x ≡ g y) → (xs ys : List X)
    → AllZip R xs ys → flat_map f xs ≡ flat_map g ys
flat_map-alike R f g same [] [] e = refl
flat_map-alike R f g same [] (y ∷ ys) e = absurd e
flat_map-alike R f g same (x ∷ xs) [] e = absurd e
flat_map-alike R f g same (x ∷ xs) (y ∷ ys) e = λ i. same x y e.0 i ++ flat_map-alike R f g same xs ys e.1 i

pub list_any-alike : {X : Type 0} (R : X → X → Type 0) (f g : X → Bool) → ((x y : X) → R x y → f x ≡ g y) → (xs ys : List X)
    → AllZip R xs ys → list_any f xs ≡ list_any g ys
list_any-alike R f g same [] [] e = refl
list_any-alike R f g same [] (y ∷ ys) e = absurd e
list_any-alike R f g same (x ∷ xs) [] e = absurd e
list_any-alike R f g same (x ∷ xs) (y ∷ ys) e = λ i. same x y e.0 i || list_any-alike R f g same xs ys e.1 i
