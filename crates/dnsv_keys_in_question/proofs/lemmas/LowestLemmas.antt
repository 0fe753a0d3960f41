-- The lowest number that is such, found by a look at one after another.
use Rattle.std.proofs.Common.{◌≡◌, ◌<◌, ◌≤◌, ◌+◌, ℕ, Some, None, subst, arith, ⊎_elim}
use Rattle.std.proofs.lemmas.Bool.{cases_lt}
use Rattle.dnsv_keys_in_question.specs.KeyLines.{IsLowestOf}

module _ (Such : ℕ → Type 0) where
  abbrev NoneTo : ℕ → Type 0
  NoneTo n = (m : ℕ) → m ≤ n → ¬ Such m

  -- numbers count from 1
  pub none_first : ((n : ℕ) → Such n → 1 ≤ n) → NoneTo 0
  none_first counted m below such = let one = counted m such in absurd (omega (arith, one, below))

  pub none_next : (n : ℕ) → ¬ Such (n + 1) → NoneTo n → NoneTo (n + 1)
  none_next n never none m below such = ⊎_elim
      (λ (behind : n < m). let same : m ≡ n + 1 = omega (arith, behind, below) in never (subst Such same such))
      (λ (within : m ≤ n). none m within such)
      (cases_lt n m)

  pub found : (n : ℕ) → Such (n + 1) → NoneTo n → IsLowestOf Such (Some (n + 1))
  found n such none = (
    such,
    λ m other. ⊎_elim
        (λ (behind : n < m). let at_least : n + 1 ≤ m = omega (arith, behind) in at_least)
        (λ (within : m ≤ n). absurd (none m within other))
        (cases_lt n m),
  )

  pub none_found : (n last : ℕ) → ((m : ℕ) → Such m → m ≤ last) → last ≤ n → NoneTo n → IsLowestOf Such None
  none_found n last bounded past none = λ m such.
      let within = bounded m such in none m (omega (arith, within, past)) such
