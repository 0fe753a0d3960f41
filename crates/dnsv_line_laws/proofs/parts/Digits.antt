-- What is written of a number: digits.
use Rattle.std.proofs.Common.{◌≡◌, ℕ, suc, zero, ◌<◌, ◌≤◌, ◌+◌, ◌/◌, ◌%◌, ◌==◌, Bool, true, false, cond, List, [], ◌∷◌, nat_lt, arith, refl, sym, subst}
use Rattle.std.proofs.lemmas.Bool.Decides.{nat_tests}
use Rattle.std.specs.Fmt.{decimal, digit_glyph, digits, digits_onto}
use Rattle.dnsv_line_laws.proofs.told.Tables.{begins_letter}

-- each octet is a digit
pub record IsDigit (c : ℕ) : Type 0 where
  pub low : 48 ≤ c
  pub high : c < 58

-- all are digits
abbrev pub AreDigits : List ℕ → Type 0
AreDigits [] = Unit {0}
AreDigits (c ∷ text) = IsDigit c × AreDigits text

-- the test of a digit
small : (d : ℕ) → d < 10 → nat_lt d 10 ≡ true
small d less = grind (arith, nat_tests)

-- a number below ten is written as a digit
digit : (d : ℕ) → d < 10 → IsDigit (digit_glyph false d)
digit d less = subst (λ b. IsDigit (cond b (48 + d) (87 + d))) (sym (small d less)) (record { low = omega arith; high = omega arith })

-- both ways of a test
either : (b : Bool) (x y : List ℕ) → AreDigits x → AreDigits y → AreDigits (cond b x y)
either true x y p q = p
either false x y p q = q

-- the digits before those that are written
digits_before : (k n : ℕ) (text : List ℕ) → AreDigits text → AreDigits (digits_onto k 10 false n text)
digits_before zero n text are = are
digits_before (suc k) n text are =
    let last : IsDigit (digit_glyph false (n % 10)) = digit (n % 10) (omega arith) in
    either (n / 10 == 0) (digit_glyph false (n % 10) ∷ text) (digits_onto k 10 false (n / 10) (digit_glyph false (n % 10) ∷ text))
    (last, are) (digits_before k (n / 10) (digit_glyph false (n % 10) ∷ text) (last, are))

-- all of a number
pub decimal_digits : (n : ℕ) → AreDigits (decimal n)
unfolding digits
decimal_digits n = digits_before 64 n [] tt

-- digits begin with no letter
no_letter_first : (text : List ℕ) → AreDigits text → begins_letter text ≡ false
no_letter_first [] are = refl
no_letter_first (c ∷ text) are = let high : c < 58 = are.0.high in grind (arith, nat_tests)

-- a number doesn't begin with a letter
pub no_letter : (n : ℕ) → begins_letter (decimal n) ≡ false
no_letter n = no_letter_first (decimal n) (decimal_digits n)
