-- The text of a number, and what `parse` makes of it.
use Rattle.std.proofs.Common.{◌≡◌, ◌≢◌, ℕ, ◌<◌, ◌^◌, List, [], ◌∷◌, length, get_or, refl, sym, ap, ◌∙◌, arith, true, false, Result, Ok, Err, subst, inl, inr}
use Rattle.std.proofs.lemmas.Bool.Decides.{nat_tests}
use Rattle.std.proofs.lemmas.Bool.{cases_lt}
use Rattle.std.proofs.lemmas.Fmt.{decimal_digit, first_decimal, parse-decimal, decimal-digits_value, decimal_injective, IsAscii-decimal}
use Rattle.std.proofs.lemmas.Str.Parse.{IsNumeralModel, numerals_by_value, tells_all_ascii_digits, parse_plain}
use Rattle.std.proofs.lemmas.Str.{IsUtf8-from_ascii}
use Rattle.std.specs.Fmt.{decimal}
use Rattle.std.specs.Option.{MatchOption}
use Rattle.std.specs.Result.{OkIff, result_ok}
use Rattle.std.specs.Str.{all_ascii_digits, IsAscii, IsUtf8}
use Rattle.std.specs.Str.Parse.{ParsesUnsigned, digits_value}
use Rattle.dnsv_names.specs.Lines.LineReading.{is_marked}

above_zero : (text : List ℕ) → 48 < get_or text 0 0 → is_marked text ≡ false
above_zero [] above = refl
above_zero (x ∷ []) above = grind (arith, nat_tests)
above_zero (x ∷ y ∷ text) above = grind (arith, nat_tests)

pub decimal_unmarked : (n : ℕ) → n < 2 ^ 64 → is_marked (decimal n) ≡ false
decimal_unmarked n small =
    elim (cases_lt n 1) [
      | inl below ↦ (let zero_is : n ≡ 0 = omega arith in rw (zero_is, decimal_digit 0 (omega arith)) refl)
      | inr above ↦ above_zero (decimal n) (first_decimal n (omega arith) small)
    ]

pub own : IsNumeralModel (λ ds. all_ascii_digits ds ≡ true) (digits_value 10)
own = numerals_by_value (λ ds. all_ascii_digits ds ≡ true) tells_all_ascii_digits

pub no_plus : (text : List ℕ) → is_marked text ≡ false → get_or text 0 0 ≢ 43
no_plus [] plain e = omega arith
no_plus (x ∷ []) plain e = grind (arith, nat_tests)
no_plus (x ∷ y ∷ text) plain e = grind (arith, nat_tests)

pub no_zero : (text : List ℕ) → 0 < length text → is_marked text ≡ false → get_or text 0 0 ≡ 48 → length text ≡ 1
no_zero [] some plain e = omega arith
no_zero (x ∷ []) some plain e = refl
no_zero (x ∷ y ∷ text) some plain e = grind (arith, nat_tests)

-- what `parse` answers of a text with no sign and no zero in front
pub parsed : {E : Type 0} (text : List ℕ) (r : Result ℕ E) → is_marked text ≡ false → ParsesUnsigned 16 10 text r → MatchOption (result_ok r) ((number : ℕ) → number < 2 ^ 16 → text ≡ decimal number → ⊥) (λ number. text ≡ decimal number)
parsed {E} text (Ok x) plain gives =
    let read = parse_plain own {E = E} 16 text (Ok x) gives (no_plus text plain) in
    let same : decimal (digits_value 10 text) ≡ text =
    decimal-digits_value own text read.0.0 read.0.1 (no_zero text read.0.1 plain) (omega (arith, read.0.2)) in
    sym same ∙ ap decimal (sym read.1)
parsed {E} text (Err e) plain gives =
    λ number small form.
    let found : Err e ≡ Ok number = parse-decimal 16 number text (Err e) small (omega arith) form gives in
    absurd (cc)

pub marked : (text : List ℕ) → true ≡ is_marked text → (number : ℕ) → number < 2 ^ 16 → text ≡ decimal number → ⊥
marked text is number small form =
    let plain : is_marked (decimal number) ≡ false = decimal_unmarked number (omega arith) in
    let same : is_marked text ≡ is_marked (decimal number) = ap is_marked form in
    absurd (cc)

pub unread : (text : List ℕ) → ¬ IsUtf8 text → (number : ℕ) → number < 2 ^ 16 → text ≡ decimal number → ⊥
unread text broken number small form =
    broken (IsUtf8-from_ascii text (subst IsAscii (sym form) (IsAscii-decimal number (omega arith))))

-- the number in a narrower type
pub narrowed : {E : Type 0} (text : List ℕ) (wide : ℕ) (r : Result ℕ E) → text ≡ decimal wide → wide < 2 ^ 16 → OkIff r (wide < 256) wide → MatchOption (result_ok r) ((number : ℕ) → number < 256 → text ≡ decimal number → ⊥) (λ number. text ≡ decimal number)
narrowed {E} text wide (Ok x) form small fits = form ∙ ap decimal (sym fits.1)
narrowed {E} text wide (Err e) form small fits =
    λ number below other.
    let same : number ≡ wide = decimal_injective number wide (omega arith) (omega arith) (sym other ∙ form) in
    fits (omega arith)
