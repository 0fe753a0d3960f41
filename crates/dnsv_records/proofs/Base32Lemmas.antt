-- Digits, and the characters that stand for them.
use Rattle.std.proofs.Common.{◌≡◌, ℕ, ◌+◌, ◌-◌, ◌*◌, ◌/◌, ◌%◌, ◌^◌, ◌<◌, ◌≤◌, List, [], ◌∷◌, ◌++◌, length, get_or, take, drop, map, refl, sym, ap, ◌∙◌, arith, ⊎_elim, length-append, add-zero}
use Rattle.std.proofs.lemmas.Bool.{cases_lt}
use Rattle.std.proofs.lemmas.Nat.{same_from_place}
use Rattle.std.proofs.lemmas.List.{map-append, length-map, take_more, get_or-map, get_or_append_left, get_or-append-add}
use Rattle.std.proofs.lemmas.List.FromFn.{get_or-range_with_len}
use Rattle.std.proofs.lemmas.Int.Digits.{number_after_append, number_push, number_lt}
use Rattle.std.proofs.Math.Nat.{pow-le-pow_right, pow-suc, pow-zero, mul-one}
use Rattle.std.proofs.lemmas.List.Elements.{All-get_or, All-from_recursion}
use Rattle.std.specs.List.{range_with_len}
use Rattle.std.specs.Int.Digits.{number_from_digits, number_from_digits_after, AllBelowBase}
use Rattle.dnsv_names.specs.PartLaws.{recursion-append, recursion-take, recursion-drop}
use Rattle.dnsv_records.specs.OctetLaws.{map_part}
use Rattle.dnsv_records.specs.Base32Hex.{alphabet, Base32Number, Base32Hex}

-- the first ten characters are digits, the others letters
pub character_low : (d : ℕ) → d < 10 → get_or alphabet d 0 ≡ 48 + d
character_low d low =
    get_or_append_left (range_with_len 48 10) (range_with_len 97 22) 0 d low ∙ get_or-range_with_len 48 10 d 0 low

pub character_high : (d : ℕ) → d < 22 → get_or alphabet (10 + d) 0 ≡ 97 + d
character_high d high =
    get_or-append-add (range_with_len 48 10) (range_with_len 97 22) d 0 ∙ get_or-range_with_len 97 22 d 0 high

-- which digit a character stands for
pub data Stands (digit character : ℕ) : Type 0 where
  as_digit : digit < 10 → 48 + digit ≡ character → Stands digit character
  as_letter : digit < 32 → 10 ≤ digit → 87 + digit ≡ character → Stands digit character

pub stands : (digit character : ℕ) → digit < 32 → get_or alphabet digit 0 ≡ character → Stands digit character
stands digit character small is = ⊎_elim
    (λ (few : digit < 10). as_digit few (sym (character_low digit few) ∙ is))
    (λ (many : 10 ≤ digit). let at : 10 + (digit - 10) ≡ digit = omega arith in
    let up : 87 + digit ≡ 97 + (digit - 10) = omega arith in
    as_letter small many (up ∙ sym (character_high (digit - 10) (omega arith)) ∙ ap (λ d. get_or alphabet d 0) at ∙ is))
    (cases_lt digit 10)

pub digit_character : (digit character : ℕ) → Stands digit character → (digit < 32) × (get_or alphabet digit 0 ≡ character)
digit_character digit character (as_digit few is) = (omega arith, character_low digit few ∙ is)
digit_character digit character (as_letter small many is) =
    let at : digit ≡ 10 + (digit - 10) = omega arith in
    let up : 97 + (digit - 10) ≡ 87 + digit = omega arith in
    (small, ap (λ d. get_or alphabet d 0) at ∙ character_high (digit - 10) (omega arith) ∙ up ∙ is)

-- a character stands for one digit
pub same_digit : {d e character : ℕ} → Stands d character → Stands e character → d ≡ e
same_digit (as_digit a p) (as_digit b q) = omega arith
same_digit (as_digit a p) (as_letter b s q) = absurd (omega arith)
same_digit (as_letter a r p) (as_digit b q) = absurd (omega arith)
same_digit (as_letter a r p) (as_letter b s q) = omega arith

pub same_digit_of : (d e character : ℕ) → d < 32 → e < 32 → get_or alphabet d 0 ≡ character → get_or alphabet e 0 ≡ character → d ≡ e
same_digit_of d e character small_d small_e p q = same_digit (stands d character small_d p) (stands e character small_e q)

shift_one : (b n d power rest whole tail : ℕ) → whole ≡ (n * b + d) * power + rest → tail ≡ (0 * b + d) * power + rest → whole ≡ n * (power * b) + tail
shift_one b n d power rest whole tail one two = omega arith

-- digits that go on from a number
pub number_after-shift : (b n : ℕ) (ds : List ℕ) → number_from_digits_after b n ds ≡ n * b ^ length ds + number_from_digits b ds
number_after-shift b n [] = sym (ap (λ k. n * k + 0) (pow-zero b) ∙ ap (λ k. k + 0) (mul-one n) ∙ add-zero n)
number_after-shift b n (d ∷ ds) =
    shift_one b n d (b ^ length ds) (number_from_digits b ds) _ _ (number_after-shift b (n * b + d) ds) (number_after-shift b (0 * b + d) ds)
    ∙ ap (λ k. n * k + number_from_digits b (d ∷ ds)) (sym (pow-suc b (length ds)))

-- digits below the base are known from their number and their count
pub same_digits_after : (b m n : ℕ) (xs ys : List ℕ) → AllBelowBase b xs → AllBelowBase b ys → length xs ≡ length ys → number_from_digits_after b m xs ≡ number_from_digits_after b n ys → (m ≡ n) × (xs ≡ ys)
same_digits_after b m n [] [] low_x low_y long same = (same, refl)
same_digits_after b m n [] (y ∷ ys) low_x low_y long same = absurd (omega arith)
same_digits_after b m n (x ∷ xs) [] low_x low_y long same = absurd (omega arith)
same_digits_after b m n (x ∷ xs) (y ∷ ys) low_x low_y long same =
    let rest = same_digits_after b (m * b + x) (n * b + y) xs ys low_x.1 low_y.1 (omega arith) same in
    let place = same_from_place m x n y b low_x.0 low_y.0 rest.0 in
    (place.0, ap (λ z. z ∷ xs) place.1 ∙ ap (λ zs. y ∷ zs) rest.1)

pub same_digits : (b : ℕ) (xs ys : List ℕ) → AllBelowBase b xs → AllBelowBase b ys → length xs ≡ length ys → number_from_digits b xs ≡ number_from_digits b ys → xs ≡ ys
same_digits b xs ys low_x low_y long same = (same_digits_after b 0 0 xs ys low_x low_y long same).1

-- the characters of digits are those digits'
pub same_from_characters : (xs ys : List ℕ) → AllBelowBase 32 xs → AllBelowBase 32 ys → map (λ digit. get_or alphabet digit 0) xs ≡ map (λ digit. get_or alphabet digit 0) ys → xs ≡ ys
same_from_characters [] [] low_x low_y same = refl
same_from_characters [] (y ∷ ys) low_x low_y same = cc
same_from_characters (x ∷ xs) [] low_x low_y same = cc
same_from_characters (x ∷ xs) (y ∷ ys) low_x low_y same =
    let first : get_or alphabet x 0 ≡ get_or alphabet y 0 = cc in
    let others : map (λ digit. get_or alphabet digit 0) xs ≡ map (λ digit. get_or alphabet digit 0) ys = cc in
    let head : x ≡ y = same_digit_of x y (get_or alphabet y 0) low_x.0 low_y.0 first refl in
    ap (λ z. z ∷ xs) head ∙ ap (λ zs. y ∷ zs) (same_from_characters xs ys low_x.1 low_y.1 others)

pub same_number : (text : List ℕ) (m n : ℕ) → Base32Number text m → Base32Number text n → m ≡ n
same_number text m n p q =
    sym p.value ∙ ap (number_from_digits 32) (same_from_characters p.digits q.digits p.five_bits q.five_bits (sym p.characters ∙ q.characters)) ∙ q.value

-- 8 characters and 5 octets more
pub Base32Hex-append : (text octets characters more : List ℕ) (number : ℕ) → Base32Hex text octets → Base32Number characters number → length characters ≡ 8 → number_from_digits 256 more ≡ number → length more ≡ 5 → Base32Hex (text ++ characters) (octets ++ more)
Base32Hex-append text octets characters more number spelled next eight is five = record {
  bits = record {
    digits = spelled.bits.digits ++ next.digits;
    characters = ap (λ t. t ++ characters) spelled.bits.characters ∙ ap (λ t. map (λ digit. get_or alphabet digit 0) spelled.bits.digits ++ t) next.characters
        ∙ sym (map-append (λ digit. get_or alphabet digit 0) spelled.bits.digits next.digits);
    five_bits = recursion-append (λ digit. digit < 32) spelled.bits.digits next.digits spelled.bits.five_bits next.five_bits;
    value =
        let many : length next.digits ≡ 8 = sym (length-map next.digits (λ digit. get_or alphabet digit 0)) ∙ sym (ap length next.characters) ∙ eight in
        number_after_append 32 0 spelled.bits.digits next.digits
        ∙ number_after-shift 32 (number_from_digits 32 spelled.bits.digits) next.digits
        ∙ ap (λ n. number_from_digits 32 spelled.bits.digits * 32 ^ n + number_from_digits 32 next.digits) many
        ∙ ap (λ n. n * 32 ^ 8 + number_from_digits 32 next.digits) spelled.bits.value
        ∙ ap (λ n. number_from_digits 256 octets * 256 ^ 5 + n) (next.value ∙ sym is)
        ∙ ap (λ n. number_from_digits 256 octets * 256 ^ n + number_from_digits 256 more) (sym five)
        ∙ sym (number_after-shift 256 (number_from_digits 256 octets) more)
        ∙ sym (number_after_append 256 0 octets more);
  };
  filled = omega (arith, spelled.filled, length-append text characters, length-append octets more);
}

-- octets are known from their text
pub same_octets : (text a b : List ℕ) → AllBelowBase 256 a → AllBelowBase 256 b → Base32Hex text a → Base32Hex text b → a ≡ b
same_octets text a b low_a low_b p q =
    same_digits 256 a b low_a low_b (omega (arith, p.filled, q.filled)) (same_number text _ _ p.bits q.bits)

-- 40 bits in groups of 5
pub eight_digits : (n : ℕ) → n < 2 ^ 40 → number_from_digits 32 (n / 2 ^ 35 % 32 ∷ n / 2 ^ 30 % 32 ∷ n / 2 ^ 25 % 32 ∷ n / 2 ^ 20 % 32 ∷ n / 2 ^ 15 % 32 ∷ n / 2 ^ 10 % 32 ∷ n / 2 ^ 5 % 32 ∷ n % 32 ∷ []) ≡ n
eight_digits n small = omega arith

-- numbers of so many digits at most
pub number_below : (b k : ℕ) (ds : List ℕ) → 0 < b → AllBelowBase b ds → length ds ≤ k → number_from_digits b ds < b ^ k
number_below b k ds some below few =
    let bound : b ^ length ds ≤ b ^ k = pow-le-pow_right some few in
    omega (arith, number_lt b ds below, bound)

pub length_digits : {text : List ℕ} {number : ℕ} (spelled : Base32Number text number) → length spelled.digits ≡ length text
length_digits spelled = sym (length-map spelled.digits (λ digit. get_or alphabet digit 0)) ∙ sym (ap length spelled.characters)

pub Base32Number-small : (k : ℕ) {text : List ℕ} {number : ℕ} → Base32Number text number → length text ≤ k → number < 32 ^ k
Base32Number-small k spelled few =
    omega (arith, spelled.value, number_below 32 k spelled.digits (omega arith) spelled.five_bits (omega (arith, length_digits spelled)))

pub Base32Number-push : (text : List ℕ) (number digit character : ℕ) → Base32Number text number → digit < 32 → get_or alphabet digit 0 ≡ character → Base32Number (text ++ character ∷ []) (number * 32 + digit)
Base32Number-push text number digit character spelled small is = record {
  digits = spelled.digits ++ digit ∷ [];
  characters = ap (λ t. t ++ character ∷ []) spelled.characters
      ∙ ap (λ c. map (λ digit. get_or alphabet digit 0) spelled.digits ++ c ∷ []) (sym is)
      ∙ sym (map-append (λ digit. get_or alphabet digit 0) spelled.digits (digit ∷ []));
  five_bits = recursion-append (λ digit. digit < 32) spelled.digits (digit ∷ []) spelled.five_bits (small, tt);
  value = number_push 32 spelled.digits digit ∙ ap (λ n. n * 32 + digit) spelled.value;
}

-- each character stands for a digit
pub digit_at : (text : List ℕ) (number i : ℕ) → Base32Number text number → i < length text → (digit : ℕ) × (digit < 32) × (get_or alphabet digit 0 ≡ get_or text i 0)
digit_at text number i spelled within =
    let inside : i < length spelled.digits = omega (arith, length_digits spelled) in (
      get_or spelled.digits i 0,
      All-get_or (λ digit. digit < 32) spelled.digits i 0 inside (All-from_recursion (λ digit. digit < 32) spelled.digits spelled.five_bits),
      sym (get_or-map (λ digit. get_or alphabet digit 0) spelled.digits i 0 0 inside) ∙ ap (λ t. get_or t i 0) (sym spelled.characters),
    )

pub take_map_more : (f : ℕ → ℕ) (xs : List ℕ) (i : ℕ) → i < length xs → take (i + 1) (map f xs) ≡ take i (map f xs) ++ f (get_or xs i 0) ∷ []
take_map_more f xs i within =
    let inside : i < length (map f xs) = omega (arith, length-map xs f) in
    take_more (map f xs) i 0 inside ∙ ap (λ x. take i (map f xs) ++ x ∷ []) (get_or-map f xs i 0 0 within)

-- any part of the characters is a number's
pub Base32Number-part : (text : List ℕ) (number m n : ℕ) → Base32Number text number → (part : ℕ) × Base32Number (take n (drop m text)) part
Base32Number-part text number m n spelled = (
  number_from_digits 32 (take n (drop m spelled.digits)),
  record {
    digits = take n (drop m spelled.digits);
    characters = ap (λ t. take n (drop m t)) spelled.characters ∙ map_part (λ digit. get_or alphabet digit 0) m n spelled.digits;
    five_bits = recursion-take (λ digit. digit < 32) n (drop m spelled.digits) (recursion-drop (λ digit. digit < 32) m spelled.digits spelled.five_bits);
    value = refl;
  },
)

-- and the text from the octets
pub same_text : (octets a b : List ℕ) → Base32Hex a octets → Base32Hex b octets → a ≡ b
same_text octets a b p q =
    p.bits.characters
    ∙ ap (map (λ digit. get_or alphabet digit 0)) (same_digits 32 p.bits.digits q.bits.digits p.bits.five_bits q.bits.five_bits
    (omega (arith, length_digits p.bits, length_digits q.bits, p.filled, q.filled)) (p.bits.value ∙ sym q.bits.value))
    ∙ sym q.bits.characters
