-- Lists that are written one element, or one part, at a time.
use Rattle.std.proofs.Common.{◌≡◌, ℕ, ◌+◌, ◌-◌, List, [], ◌∷◌, ◌++◌, suc, zero, length, map, take, drop, set, get_or, refl, ap, add-one, ◌∙◌}
use Rattle.std.proofs.Math.Seq.{take-append-add, drop-append_seam}
use Rattle.std.proofs.lemmas.List.{take-append-drop, append_assoc, take_rest}

-- a list whose elements are changed from left to right, with the element at the place changed too
changed_at : (f : ℕ → ℕ) (all : List ℕ) (i : ℕ)
    → set (map f (take i all) ++ drop i all) i (f (get_or (map f (take i all) ++ drop i all) i 0))
    ≡ map f (take (suc i) all) ++ drop (suc i) all
changed_at f [] zero = refl
changed_at f [] (suc i) = refl
changed_at f (x ∷ xs) zero = refl
changed_at f (x ∷ xs) (suc i) = ap (λ rest. f x ∷ rest) (changed_at f xs i)

-- the same for a list of which that is known
pub changed_more : (f : ℕ → ℕ) (all now : List ℕ) (i : ℕ)
    → now ≡ map f (take i all) ++ drop i all
    → set now i (f (get_or now i 0)) ≡ map f (take (i + 1) all) ++ drop (i + 1) all
changed_more f all now i so_far = rw (so_far, add-one) (changed_at f all i)

-- the beginning of `second` stands behind the first `width` elements of `joined`
pub record StandsBehind (width beside : ℕ) (joined second : List ℕ) : Type 0 where
  pub part : take beside (drop width joined) ≡ take beside second

-- what is put at the front stands before that beginning, and the rest follows
pub joined_with : {width beside : ℕ} {joined second : List ℕ} (front : List ℕ)
    → StandsBehind width beside joined second → length front ≡ width
    → take (width + beside) (front ++ drop width joined) ++ take (length second - beside) (drop beside second)
    ≡ front ++ second
joined_with {width} {beside} {joined} {second} front stands long =
    let seam = take-append-add front (drop width joined) beside in
    let begun = (rw long at seam) ∙ ap (λ part. front ++ part) stands.part in
    rw (begun, take_rest second beside, append_assoc, take-append-drop beside second) refl

-- and the beginning still stands there
pub StandsBehind-kept : {width beside : ℕ} {joined second : List ℕ} (front : List ℕ)
    → StandsBehind width beside joined second → length front ≡ width
    → StandsBehind width beside (front ++ drop width joined) second
StandsBehind-kept {width} {beside} {joined} {second} front stands long = record {
  part = let seam = drop-append_seam front (drop width joined) in
      ap (λ rest. take beside rest) (rw long at seam) ∙ stands.part;
}
