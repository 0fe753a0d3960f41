-- Octets written in hex, some at a time.
use Rattle.std.proofs.Common.{◌≡◌, ℕ, ◌/◌, ◌%◌, Bool, true, ◌&&◌, nat_lt, List, [], ◌∷◌, ◌++◌, take, drop, slice_index, Result, Ok, Err, refl, sym, ap, subst, ◌∙◌, arith, append_assoc, take-append-drop}
use Rattle.std.specs.Prelude.{IsOk, MatchResult}
use Rattle.std.proofs.lemmas.Bool.{and_parts}
use Rattle.std.proofs.lemmas.Bool.Decides.{nat_tests}
use Rattle.std.proofs.lemmas.Str.Ascii.{IsAscii-nil, IsAscii-cons}
use Rattle.std.proofs.lemmas.Str.{IsUtf8-from_ascii}
use Rattle.std.specs.Str.{IsAscii, IsUtf8}
use Rattle.hex.specs.Hex.{encode_lower, encode_with, lower_digits}
use Rattle.hex.proofs.HexLemmas.{IsAscii-encode_with}

pub encode-append : (xs ys : List ℕ) → encode_lower (xs ++ ys) ≡ encode_lower xs ++ encode_lower ys
unfolding encode_with
encode-append [] ys = refl
encode-append (x ∷ xs) ys = ap (λ rest. slice_index lower_digits (x / 16) ∷ slice_index lower_digits (x % 16) ∷ rest) (encode-append xs ys)

-- what was written and what is left are the whole
pub record HexSoFar (octets before : List ℕ) (rest now : List ℕ) : Type 0 where
  pub whole : before ++ encode_lower octets ≡ now ++ encode_lower rest

pub HexSoFar-next : {octets before rest now : List ℕ} → HexSoFar octets before rest now → (n : ℕ) (piece behind after : List ℕ) → piece ≡ take n rest → behind ≡ drop n rest
    → after ≡ now ++ encode_lower piece → HexSoFar octets before behind after
HexSoFar-next {rest = rest} {now = now} so_far n piece behind after first left line = record {
  whole = so_far.whole ∙ ap (λ xs. now ++ encode_lower xs) (sym (take-append-drop n rest))
      ∙ ap (λ xs. now ++ xs) (encode-append (take n rest) (drop n rest))
      ∙ sym (append_assoc now (encode_lower (take n rest)) (encode_lower (drop n rest)))
      ∙ (λ i. (now ++ encode_lower (sym first i)) ++ encode_lower (sym left i))
      ∙ ap (λ front. front ++ encode_lower behind) (sym line);
}

-- ---- the digits are a text

abbrev all_small : List ℕ → Bool
all_small [] = true
all_small (octet ∷ octets) = nat_lt octet 128 && all_small octets

ascii_by_test : (octets : List ℕ) → all_small octets ≡ true → IsAscii octets
ascii_by_test [] small = IsAscii-nil
ascii_by_test (octet ∷ octets) small =
    let parts = and_parts (nat_lt octet 128) (all_small octets) small in
    IsAscii-cons octet octets (grind (arith, nat_tests, parts.0)) (ascii_by_test octets parts.1)

digits_are_text : (octets : List ℕ) → IsUtf8 (encode_lower octets)
digits_are_text octets = IsUtf8-from_ascii (encode_lower octets) (IsAscii-encode_with lower_digits octets (ascii_by_test lower_digits refl))

-- so what is read of them is one
pub digits_are_read : {T E : Type 0} (octets bytes : List ℕ) (answer : Result T E) (Read : T → Type 0) (Told : E → Type 0)
    → MatchResult answer Read (λ error. ¬ IsUtf8 bytes × Told error) → bytes ≡ encode_lower octets → IsOk answer
digits_are_read octets bytes (Ok text) Read Told cases same = refl
digits_are_read octets bytes (Err error) Read Told cases same = absurd (cases.0 (subst IsUtf8 (sym same) (digits_are_text octets)))
