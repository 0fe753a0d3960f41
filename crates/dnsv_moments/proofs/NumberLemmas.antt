-- What a test of two lists of numbers tells.
use Rattle.std.proofs.Common.{◌≡◌, ◌↔◌, ◌&&◌, Bool, true, false, IsTrue, nat_eq, List, [], ◌∷◌, refl, sym, ◌∙◌, subst, arith}
use Rattle.std.proofs.lemmas.Bool.{false≢true}
use Rattle.std.proofs.lemmas.Bool.Decides.{nat_tests}
use Rattle.std.specs.Cmp.Lexicographic.{pointwise}
use Rattle.dnsv_canonical.specs.declared.number.SignatureNumber.{SignatureNumber}

abbrev is_same : SignatureNumber → SignatureNumber → Bool
is_same x y = nat_eq x.rrset y.rrset && nat_eq x.signature y.signature

same_number : (x y : SignatureNumber) → is_same x y ≡ true → x ≡ y
same_number x y same =
    let one : x.rrset ≡ y.rrset = grind (arith, nat_tests) in
    let two : x.signature ≡ y.signature = grind (arith, nat_tests) in
    λ i. record { rrset = one i; signature = two i }

itself : (x : SignatureNumber) → is_same x x ≡ true
itself x = grind (arith, nat_tests)

same_numbers : (xs ys : List SignatureNumber) → pointwise is_same xs ys ≡ true → xs ≡ ys
same_numbers [] [] same = refl
same_numbers [] (y ∷ ys) same = absurd (false≢true same)
same_numbers (x ∷ xs) [] same = absurd (false≢true same)
same_numbers (x ∷ xs) (y ∷ ys) same =
    elim (is_same x y) as (λ b. is_same x y ≡ b → (x ∷ xs) ≡ (y ∷ ys)) [
      | true ↦ λ here.
          let rest : pointwise is_same xs ys ≡ true = rw here at same in
          let first = same_number x y here in
          let others = same_numbers xs ys rest in
          λ i. first i ∷ others i
      | false ↦ λ here. absurd (false≢true (rw here at same))
    ] refl

themselves : (xs : List SignatureNumber) → pointwise is_same xs xs ≡ true
themselves [] = refl
themselves (x ∷ xs) = rw (itself x) (themselves xs)

pub decides : (xs ys : List SignatureNumber) (result : Bool) → result ≡ pointwise is_same xs ys → IsTrue result ↔ xs ≡ ys
decides xs ys result is = (
  λ true_is. same_numbers xs ys (sym is ∙ true_is),
  λ same. is ∙ subst (λ (zs : List SignatureNumber). pointwise is_same xs zs ≡ true) same (themselves xs),
)
