-- Lists of what is so are one.
use Rattle.std.proofs.Common.{◌≡◌, ◌∙◌, ℕ, ◌+◌, inl, inr, List, [], ◌∷◌, ◌++◌, sym}
use Rattle.dnsv_derivations.specs.Listing.{AreOfEach, AreOfNumbered, AreParted, AreWhere}

-- one list at most is such
abbrev pub IsOneList : {X : Type 0} → (List X → Type 0) → Type 0
IsOneList {X} Are = (a b : List X) → Are a → Are b → a ≡ b

pub one_parted : {X : Type 0} (First Second : List X → Type 0) → IsOneList First → IsOneList Second
    → IsOneList (AreParted First Second)
one_parted {X = X} First Second first second a b x y =
    let fronts : x.first ≡ y.first = first x.first y.first x.is_first y.is_first in
    let backs : x.second ≡ y.second = second x.second y.second x.is_second y.is_second in
    x.parts ∙ (λ i. fronts i ++ backs i) ∙ sym y.parts

pub one_of_each : {X Y : Type 0} (Are : X → List Y → Type 0) → ((x : X) → IsOneList (Are x)) → (xs : List X)
    → IsOneList (AreOfEach Are xs)
one_of_each {X = X} {Y = Y} Are one [] a b x y = x ∙ sym y
one_of_each {X = X} {Y = Y} Are one (each ∷ xs) a b x y =
    one_parted (Are each) (AreOfEach Are xs) (one each) (one_of_each Are one xs) a b x y

pub one_numbered : {X Y : Type 0} (Are : ℕ → X → List Y → Type 0) → ((n : ℕ) (x : X) → IsOneList (Are n x)) → (n : ℕ)
    (xs : List X) → IsOneList (AreOfNumbered Are n xs)
one_numbered {X = X} {Y = Y} Are one n [] a b x y = x ∙ sym y
one_numbered {X = X} {Y = Y} Are one n (each ∷ xs) a b x y =
    one_parted (Are n each) (AreOfNumbered Are (n + 1) xs) (one n each) (one_numbered Are one (n + 1) xs) a b x y

pub one_where : {X : Type 0} (Holds : Type 0) (Are : List X → Type 0) → IsOneList Are → IsOneList (AreWhere Holds Are)
one_where {X = X} Holds Are one a b (inl x) (inl y) = one a b x.1 y.1
one_where {X = X} Holds Are one a b (inl x) (inr y) = absurd (y.0 x.0)
one_where {X = X} Holds Are one a b (inr x) (inl y) = absurd (x.0 y.0)
one_where {X = X} Holds Are one a b (inr x) (inr y) = x.1 ∙ sym y.1
