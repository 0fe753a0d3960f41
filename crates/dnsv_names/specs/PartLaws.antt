-- The laws of lists by parts, for proofs: what holds of each member holds of each in a part, and in two lists together.
use Rattle.std.proofs.Common.{ℕ, suc, zero, ◌<◌, List, [], ◌∷◌, ◌++◌, get_or, take, drop, arith}
use Rattle.std.proofs.lemmas.List.Elements.{All-from_get_or, recursion_from_All}
use Rattle.std.specs.List.{AllByRecursion}

pub recursion-append : {X : Type 0} (P : X → Type 0) (xs ys : List X) → AllByRecursion P xs → AllByRecursion P ys → AllByRecursion P (xs ++ ys)
recursion-append P [] ys p q = q
recursion-append P (x ∷ xs) ys p q = (p.0, recursion-append P xs ys p.1 q)

pub recursion-take : {X : Type 0} (P : X → Type 0) (n : ℕ) (xs : List X) → AllByRecursion P xs → AllByRecursion P (take n xs)
recursion-take P zero xs p = tt
recursion-take P (suc n) [] p = tt
recursion-take P (suc n) (x ∷ xs) p = (p.0, recursion-take P n xs p.1)

pub recursion-drop : {X : Type 0} (P : X → Type 0) (n : ℕ) (xs : List X) → AllByRecursion P xs → AllByRecursion P (drop n xs)
recursion-drop P zero xs p = p
recursion-drop P (suc n) [] p = tt
recursion-drop P (suc n) (x ∷ xs) p = recursion-drop P n xs p.1

-- octets of a slice, by their place
pub octets_fit : (xs : List ℕ) → ((i : ℕ) → get_or xs i 0 < 256) → AllByRecursion (λ octet. octet < 256) xs
octets_fit xs fits = recursion_from_All (λ octet. octet < 256) xs (All-from_get_or (λ octet. octet < 256) xs 0 (λ i within. fits i))

pub octet_at_place : (xs : List ℕ) → AllByRecursion (λ octet. octet < 256) xs → (i : ℕ) → get_or xs i 0 < 256
octet_at_place [] are i = omega arith
octet_at_place (x ∷ xs) are zero = are.0
octet_at_place (x ∷ xs) are (suc i) = octet_at_place xs are.1 i
