-- The text of a number below 2^64, and what `parse` makes of it.
use Rattle.std.proofs.Common.{◌≡◌, ℕ, ◌<◌, ◌^◌, List, sym, ap, ◌∙◌, arith, true, false, Result, Ok, Err, subst}
use Rattle.std.proofs.lemmas.Fmt.{parse-decimal, decimal-digits_value, IsAscii-decimal}
use Rattle.std.proofs.lemmas.Str.Parse.{parse_plain}
use Rattle.std.proofs.lemmas.Str.{IsUtf8-from_ascii}
use Rattle.std.specs.Fmt.{decimal}
use Rattle.std.specs.Option.{MatchOption}
use Rattle.std.specs.Result.{result_ok}
use Rattle.std.specs.Str.{IsAscii, IsUtf8}
use Rattle.std.specs.Str.Parse.{ParsesUnsigned, digits_value}
use Rattle.dnsv_names.proofs.LineLemmas.DecimalLemmas.{decimal_unmarked, no_plus, no_zero, own}
use Rattle.dnsv_names.specs.Lines.LineReading.{is_marked}

-- what `parse` answers of a text with no sign and no zero in front
pub parsed : {E : Type 0} (text : List ℕ) (r : Result ℕ E) → is_marked text ≡ false → ParsesUnsigned 64 10 text r → MatchOption (result_ok r) ((number : ℕ) → number < 2 ^ 64 → text ≡ decimal number → ⊥) (λ number. text ≡ decimal number)
parsed {E} text (Ok x) plain gives =
    let read = parse_plain own {E = E} 64 text (Ok x) gives (no_plus text plain) in
    let same : decimal (digits_value 10 text) ≡ text =
    decimal-digits_value own text read.0.0 read.0.1 (no_zero text read.0.1 plain) (omega (arith, read.0.2)) in
    sym same ∙ ap decimal (sym read.1)
parsed {E} text (Err e) plain gives =
    λ number small form.
    let found : Err e ≡ Ok number = parse-decimal 64 number text (Err e) small (omega arith) form gives in
    absurd (cc)

pub marked : (text : List ℕ) → true ≡ is_marked text → (number : ℕ) → number < 2 ^ 64 → text ≡ decimal number → ⊥
marked text is number small form =
    let plain : is_marked (decimal number) ≡ false = decimal_unmarked number small in
    let same : is_marked text ≡ is_marked (decimal number) = ap is_marked form in
    absurd (cc)

pub unread : (text : List ℕ) → ¬ IsUtf8 text → (number : ℕ) → number < 2 ^ 64 → text ≡ decimal number → ⊥
unread text broken number small form =
    broken (IsUtf8-from_ascii text (subst IsAscii (sym form) (IsAscii-decimal number (omega arith))))
