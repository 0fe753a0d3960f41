-- The first of pairs of numbers.
use Rattle.std.proofs.Common.{◌≡◌, ◌↔◌, ℕ, ◌<◌, ◌≤◌, ⊎_elim, arith}
use Rattle.dnsv_verdict.specs.Secure.{IsFirstSuch}

-- there is only one
pub one_first_such : (Such : ℕ → ℕ → Type 0) (k s j r : ℕ) → IsFirstSuch Such k s → IsFirstSuch Such j r → (k ≡ j) × (s ≡ r)
one_first_such Such k s j r a b =
    ⊎_elim (λ (x : k < j). ⊎_elim (λ (y : j < k). absurd (omega (arith, x, y)))
    (λ (y : (j ≡ k) × (r ≤ s)). absurd (omega (arith, x, y.0))) (b.earliest k s a.such))
    (λ (x : (k ≡ j) × (s ≤ r)). ⊎_elim (λ (y : j < k). absurd (omega (arith, x.0, y)))
    (λ (y : (j ≡ k) × (r ≤ s)). (x.0, omega (arith, x.1, y.1))) (b.earliest k s a.such))
    (a.earliest j r b.such)

-- what is such is all that counts
pub first_such_respects : (Such Other : ℕ → ℕ → Type 0) (k s : ℕ) → ((j r : ℕ) → Such j r ↔ Other j r)
    → IsFirstSuch Such k s → IsFirstSuch Other k s
first_such_respects Such Other k s same a = record {
  such = (same k s).0 a.such;
  earliest = λ j r other. a.earliest j r ((same j r).1 other);
}
