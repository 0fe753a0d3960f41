-- Facts about pairs of elements of two lists.
use Rattle.std.proofs.Common.{◌≡◌, ◌<◌, ◌+◌, ℕ, zero, suc, List, [], ◌∷◌, ◌++◌, length, get_or, take, sym, arith, subst}
use Rattle.std.proofs.lemmas.List.{take_more}
use Rattle.std.specs.List.{AllZip}

module _ {A B : Type 0} (R : A → B → Type 0) where
  pub zip_length : (xs : List A) (ys : List B) → AllZip R xs ys → length xs ≡ length ys
  zip_length [] [] each = omega arith
  zip_length [] (y ∷ ys) each = absurd each
  zip_length (x ∷ xs) [] each = absurd each
  zip_length (x ∷ xs) (y ∷ ys) each = let rest = zip_length xs ys each.1 in omega (arith, rest)

  pub zip_at : (xs : List A) (ys : List B) (i : ℕ) (d : A) (e : B) → AllZip R xs ys → i < length xs → R (get_or xs i d) (get_or ys i e)
  zip_at [] ys i d e each within = absurd (omega (arith, within))
  zip_at (x ∷ xs) [] i d e each within = absurd each
  zip_at (x ∷ xs) (y ∷ ys) zero d e each within = each.0
  zip_at (x ∷ xs) (y ∷ ys) (suc i) d e each within = zip_at xs ys i d e each.1 (omega (arith, within))

  pub zip_push : (xs : List A) (ys : List B) (x : A) (y : B) → AllZip R xs ys → R x y → AllZip R (xs ++ x ∷ []) (ys ++ y ∷ [])
  zip_push [] [] x y each one = (one, tt)
  zip_push [] (b ∷ ys) x y each one = absurd each
  zip_push (a ∷ xs) [] x y each one = absurd each
  zip_push (a ∷ xs) (b ∷ ys) x y each one = (each.0, zip_push xs ys x y each.1 one)

  -- one element more of the first list has its partner
  pub zip_more : (xs : List A) (ys : List B) (i : ℕ) (x : A) (y : B) → i < length xs → x ≡ get_or xs i x → AllZip R (take i xs) ys → R x y
      → AllZip R (take (i + 1) xs) (ys ++ y ∷ [])
  zip_more xs ys i x y within at each one =
      subst (λ (front : List A). AllZip R front (ys ++ y ∷ [])) (sym (take_more xs i x within))
      (zip_push (take i xs) ys (get_or xs i x) y each (subst (λ (z : A). R z y) at one))
