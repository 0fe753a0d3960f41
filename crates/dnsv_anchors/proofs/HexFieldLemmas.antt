-- Which fields decode.
use Rattle.std.proofs.Common.{◌≡◌, ◌<◌, ◌&&◌, ℕ, ◌+◌, ◌-◌, ◌*◌, ◌/◌, ◌%◌, Bool, true, false, List, [], ◌∷◌, ◌++◌, length, drop, take, get_or, refl, sym, ap, ◌∙◌, subst, Some, Result, Ok, Err, ◌↔◌, arith}
use Rattle.std.proofs.lemmas.Bool.{and_parts}
use Rattle.std.proofs.lemmas.List.{append_assoc, drop_at, get_or_append_left, get_or_push, length-append, length_push, take_at, take_more}
use Rattle.std.proofs.lemmas.List.Elements.{All-push}
use Rattle.std.specs.Prelude.{IsOk}
use Rattle.std.specs.List.{AllPass}
use Rattle.hex.proofs.HexLemmas.{decode_of-digits, decode_of-ok}
use Rattle.hex.proofs.OnLiterals.{hex_on_literals}
use Rattle.hex.specs.Hex.{decode_of, digit_or_error, hex_digit_value, is_hex_digit, pair_value, value_at}
use Rattle.dnsv_anchors.specs.HexField.{AddsDecoded, AreDigitsOf, hex_value}
use Rattle.hex.specs.declared.error.FromHexError.{FromHexError}

ok_value : (r : Result (List ℕ) FromHexError) → IsOk r → (octets : List ℕ) × (r ≡ Ok octets)
ok_value (Ok octets) h = (octets, refl)
ok_value (Err e) h = cc h

-- an even number of octets decodes just where all are digits
pub even_decodes : (octets : List ℕ) → length octets % 2 ≡ 0 → IsOk (decode_of octets) ↔ AllPass is_hex_digit octets
even_decodes octets even = (
  λ h. let value = ok_value (decode_of octets) h in (decode_of-ok octets value.0 value.1).1,
  λ h. let value = decode_of-digits octets even h in rw value.1 refl,
)

-- a test of all is one of the front and of the last
all_front : (front : List ℕ) (last : ℕ) → AllPass is_hex_digit (front ++ last ∷ []) → AllPass is_hex_digit front
all_front front last all k d within =
    let size = length_push front last in
    let here = get_or_append_left front (last ∷ []) d k within in
    subst (λ c. is_hex_digit c ≡ true) here (all k d (omega (arith, size, within)))

all_last : (front : List ℕ) (last : ℕ) → AllPass is_hex_digit (front ++ last ∷ []) → is_hex_digit last ≡ true
all_last front last all =
    let size = length_push front last in
    subst (λ c. is_hex_digit c ≡ true) (get_or_push front last 0 (length front) refl) (all (length front) 0 (omega (arith, size)))

and_both : (a b : Bool) → a ≡ true → b ≡ true → (a && b) ≡ true
and_both true true first second = refl
and_both false b first second = cc
and_both true false first second = cc

-- no digits are those of no octets
pub dash_says_none : (field : List ℕ) → hex_value field ≡ Some [] → AreDigitsOf field []
unfolding hex_on_literals
dash_says_none field value = record { octets = []; decoded = refl; value = value }

-- the value of a digit, in either case
pub value_is : (c : ℕ) → is_hex_digit c ≡ true → hex_digit_value c ≡ Some (c % 16 + 9 * (c / 64))
value_is c digit = grind (arith)

pub value_small : (c : ℕ) → is_hex_digit c ≡ true → c % 16 + 9 * (c / 64) < 16
value_small c digit = grind (arith)

-- the octet of two digits
pub pair_is : (high low i first second : ℕ) → hex_digit_value high ≡ Some first → hex_digit_value low ≡ Some second
    → pair_value high low i ≡ Ok (first * 16 + second)
pair_is high low i first second is_first is_second =
    let its_first : value_at high i ≡ Ok first = ap (digit_or_error high i) is_first in
    let its_second : value_at low (i + 1) ≡ Ok second = ap (digit_or_error low (i + 1)) is_second in
    rw (its_first, its_second) refl

-- what decodes is pairs of digits
pub decodes_digits : (digits : List ℕ) → IsOk (decode_of digits) → AllPass is_hex_digit digits
decodes_digits digits is = let value = ok_value (decode_of digits) is in (decode_of-ok digits value.0 value.1).1

pub decodes_even : (digits : List ℕ) → IsOk (decode_of digits) → length digits % 2 ≡ 0
decodes_even digits is =
    let value = ok_value (decode_of digits) is in
    (decode_of-ok digits value.0 value.1).0

-- one octet more is tested
pub digits_more : (octets : List ℕ) (place : ℕ) (all digit : Bool) → place < length octets
    → (all ≡ true ↔ AllPass is_hex_digit (take place octets)) → (digit ≡ true ↔ is_hex_digit (get_or octets place 0) ≡ true)
    → (all && digit) ≡ true ↔ AllPass is_hex_digit (take (place + 1) octets)
digits_more octets place all digit within before its =
    let more = take_more octets place 0 within in (
      λ both. let parts = and_parts all digit both in rw more (All-push (λ c. is_hex_digit c ≡ true) (take place octets) (get_or octets place 0) (before.0 parts.0) (its.0 parts.1)),
      λ passes. let each = rw more at passes in and_both all digit (before.1 (all_front (take place octets) (get_or octets place 0) each)) (its.1 (all_last (take place octets) (get_or octets place 0) each)),
    )

-- three parts that were decoded one behind the other, by where they begin
module _ (key signed_data signature start first second all : List ℕ) (data_at signature_at : ℕ) (empty : start ≡ [])
    (its_key : AddsDecoded key start first) (its_data : AddsDecoded signed_data first second)
    (its_signature : AddsDecoded signature second all) (to_data : data_at ≡ length first)
    (to_signature : signature_at ≡ length second) where
  whole : all ≡ first ++ (its_data.octets ++ its_signature.octets)
  whole =
      its_signature.behind ∙ ap (λ (front : List ℕ). front ++ its_signature.octets) its_data.behind
      ∙ append_assoc first its_data.octets its_signature.octets

  key_is : take data_at all ≡ its_key.octets
  key_is =
      ap (take data_at) whole ∙ take_at first (its_data.octets ++ its_signature.octets) data_at (sym to_data)
      ∙ its_key.behind ∙ ap (λ (front : List ℕ). front ++ its_key.octets) empty

  data_is : take (signature_at - data_at) (drop data_at all) ≡ its_data.octets
  data_is =
      let count : length second ≡ length first + length its_data.octets = ap length its_data.behind ∙ length-append first its_data.octets in
      ap (λ (rest : List ℕ). take (signature_at - data_at) rest) (ap (drop data_at) whole ∙ drop_at first (its_data.octets ++ its_signature.octets) data_at (sym to_data))
      ∙ take_at its_data.octets its_signature.octets (signature_at - data_at) (omega (arith, count, to_data, to_signature))

  signature_is : drop signature_at all ≡ its_signature.octets
  signature_is = ap (drop signature_at) its_signature.behind ∙ drop_at second its_signature.octets signature_at (sym to_signature)

  pub parts_decoded : (decode_of key ≡ Ok (take data_at all))
      × (decode_of signed_data ≡ Ok (take (signature_at - data_at) (drop data_at all)))
      × (decode_of signature ≡ Ok (drop signature_at all))
  parts_decoded = (
    its_key.decoded ∙ ap Ok (sym key_is),
    its_data.decoded ∙ ap Ok (sym data_is),
    its_signature.decoded ∙ ap Ok (sym signature_is),
  )
