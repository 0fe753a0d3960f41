-- Octets that lie in two pieces: their order, and the numbers in front.
use Rattle.std.proofs.Common.{◌≡◌, ℕ, ◌+◌, ◌<◌, ◌≤◌, ◌⊎◌, ⊎_elim, inl, inr, List, [], ◌∷◌, ◌++◌, length, take, drop, refl, sym, ap, ◌∙◌, arith}
use Rattle.std.proofs.lemmas.List.{append-nil, length-append, length-drop, take-append-le, drop-append-le}
use Rattle.std.specs.Int.Digits.{number_from_digits}
use Rattle.std.specs.Ordering.{nat_cmp, ordering_then, ordering_reverse}
use Rattle.std.specs.declared.cmp.Ordering.{Ordering}
use Rattle.std.specs.declared.cmp.Ordering.TheVariants.{Less, Equal, Greater}
use Rattle.std.proofs.lemmas.Cmp.{nat_list_cmp_total}
use Rattle.dnsv_names.specs.Octets.{number_at, octets_cmp}
use Rattle.dnsv_verifier.specs.SignedData.{IsFront}

then_then : (r s t : Ordering) → ordering_then r (ordering_then s t) ≡ ordering_then (ordering_then r s) t
then_then Less s t = refl
then_then Equal s t = refl
then_then Greater s t = refl

-- fronts of one length decide before the rests
pub parted : (x y xs ys : List ℕ) → length x ≡ length y
    → octets_cmp (x ++ xs) (y ++ ys) ≡ ordering_then (octets_cmp x y) (octets_cmp xs ys)
parted [] [] xs ys same = refl
parted [] (b ∷ y) xs ys same = absurd (omega (arith, same))
parted (a ∷ x) [] xs ys same = absurd (omega (arith, same))
parted (a ∷ x) (b ∷ y) xs ys same =
    ap (ordering_then (nat_cmp a b)) (parted x y xs ys (omega (arith, same)))
    ∙ then_then (nat_cmp a b) (octets_cmp x y) (octets_cmp xs ys)

-- fewer octets than a front has are decided by it
pub shorter : (x y ys : List ℕ) → length x < length y → octets_cmp x (y ++ ys) ≡ octets_cmp x y
shorter [] [] ys less = absurd (omega (arith, less))
shorter [] (b ∷ y) ys less = refl
shorter (a ∷ x) [] ys less = absurd (omega (arith, less))
shorter (a ∷ x) (b ∷ y) ys less = ap (ordering_then (nat_cmp a b)) (shorter x y ys (omega (arith, less)))

pub turned : (a b : List ℕ) → ordering_reverse (octets_cmp b a) ≡ octets_cmp a b
turned a b = sym (nat_list_cmp_total.antisymm a b)

-- ---- the first piece

module _ (front octets : List ℕ) (is : IsFront front octets) where
  lengths : length octets ≡ length front + length is.rest
  lengths = ap length (sym is.whole) ∙ length-append front is.rest

  pub short_too : length front < 16 → length octets < 16
  short_too short = ⊎_elim
      (λ (long : 16 ≤ length front). absurd (omega (arith, short, long)))
      (λ (same : front ≡ octets). let count = ap length same in omega (arith, short, count))
      is.enough

  pub long_too : 16 ≤ length front → 16 ≤ length octets
  long_too long = omega (arith, long, lengths)

  -- a number within the first 16 octets
  pub number_too : 16 ≤ length front → (place : ℕ) → place + 4 ≤ 16 → number_at front place 4 ≡ number_at octets place 4
  number_too long place within =
      let left = length-drop place front in
      let behind : drop place octets ≡ drop place front ++ is.rest =
      ap (drop place) (sym is.whole) ∙ drop-append-le place front is.rest (omega (arith, long, within)) in
      ap (number_from_digits 256)
      (sym (ap (take 4) behind ∙ take-append-le 4 (drop place front) is.rest (omega (arith, long, within, left))))

-- ---- no octets

pub none_there : (octets : List ℕ) → length octets ≡ 0 → octets ≡ []
none_there [] none = refl
none_there (octet ∷ octets) none = absurd (omega (arith, none))

pub none_behind : (front records : List ℕ) → (16 ≤ length front) ⊎ (records ≡ []) → front ≡ [] → front ++ records ≡ []
none_behind front records (inl long) none = let count = ap length none in absurd (omega (arith, long, count))
none_behind front records (inr nothing) none = ap (λ all. front ++ all) nothing ∙ append-nil front ∙ none

pub none_in_front : (front records : List ℕ) → front ++ records ≡ [] → front ≡ []
none_in_front [] records none = refl
none_in_front (octet ∷ front) records none = let count = ap length none in absurd (omega (arith, count))
