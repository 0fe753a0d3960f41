-- The laws of parts of lists, for proofs: their lengths and where they stand.
use Rattle.std.proofs.Common.{◌≡◌, ℕ, ◌+◌, ◌≤◌, List, ◌++◌, length, take, drop, map, sym, ap, ◌∙◌, arith, length-drop}
use Rattle.std.proofs.lemmas.List.{take-append-drop, take-take, drop-take, drop-map, take-map, length-take-le}
pub use Rattle.dnsv_names.specs.PartLaws.{recursion-append, octets_fit, recursion-take, recursion-drop}

-- a part further on
pub take_part : {X : Type 0} (m n k : ℕ) (xs : List X) → k ≡ m + n → take k xs ≡ take m xs ++ take n (drop m xs)
take_part m n k xs sum =
    ap (λ k. take k xs) sum ∙ sym (take-append-drop m (take (m + n) xs))
    ∙ ap (λ ys. ys ++ drop m (take (m + n) xs)) (take-take m (m + n) xs (omega arith))
    ∙ ap (λ ys. take m xs ++ ys) (drop-take m n xs)

pub map_part : (f : ℕ → ℕ) (m n : ℕ) (xs : List ℕ) → take n (drop m (map f xs)) ≡ map f (take n (drop m xs))
map_part f m n xs = ap (take n) (drop-map f m xs) ∙ take-map f n (drop m xs)

pub length_part : {X : Type 0} (m n : ℕ) (xs : List X) → m + n ≤ length xs → length (take n (drop m xs)) ≡ n
length_part m n xs within = length-take-le n (drop m xs) (omega (arith, length-drop m xs))
