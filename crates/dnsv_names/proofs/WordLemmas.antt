-- Eight octets compared as one number, the highest first.
use Rattle.std.proofs.Common.{◌≡◌, ◌≢◌, ℕ, zero, suc, ◌+◌, ◌*◌, ◌^◌, ◌<◌, ◌≤◌, List, ◌∷◌, length, get_or, drop, refl, sym, ap, ◌∙◌, arith, add-zero, ⊎_elim}
use Rattle.std.proofs.Math.Nat.{mul-le-mul_right, add-mul, one-mul}
use Rattle.std.proofs.lemmas.Bool.{cases_order}
use Rattle.std.proofs.lemmas.Bool.Decides.{nat_tests}
use Rattle.std.proofs.lemmas.List.{drop_more}
use Rattle.std.specs.Prelude.{slice_index}
use Rattle.std.specs.Cmp.{nat_cmp_is}
use Rattle.std.specs.Ordering.{ordering_then, nat_cmp}
use Rattle.std.specs.declared.cmp.Ordering.{Ordering}
use Rattle.std.specs.declared.cmp.Ordering.TheVariants.{Less, Equal, Greater}
use Rattle.byteorder.specs.Endian.{big_from}
use Rattle.byteorder.specs.Numbers.{big_from-lt}
use Rattle.dnsv_names.proofs.LowerLemmas.{untied}
use Rattle.dnsv_names.specs.Octets.{octets_cmp, number_at}
use Rattle.dnsv_names.specs.Octets.OctetLaws.{number_at-big_from}

then_assoc : (p q r : Ordering) → ordering_then p (ordering_then q r) ≡ ordering_then (ordering_then p q) r
then_assoc Less q r = refl
then_assoc p q r = refl

-- a lower digit has the lower number, whatever is behind it
lower_digit : (power x y front behind : ℕ) → front < power → x < y → x * power + front < y * power + behind
lower_digit power x y front behind fits less =
    let whole : (x + 1) * power ≤ y * power = mul-le-mul_right power (omega (arith, less)) in
    let spread : (x + 1) * power ≡ x * power + power = add-mul x 1 power ∙ ap (λ n. x * power + n) (one-mul power) in
    omega (arith, whole, spread, fits)

after_same : (front back p q : ℕ) → front ≡ back → nat_cmp (front + p) (back + q) ≡ nat_cmp p q
after_same front back p q same = grind (arith, nat_tests, same)

-- numbers stand to each other as their highest digits do, and then as the rests
digits_decide : (power x y p q : ℕ) → p < power → q < power → ordering_then (nat_cmp x y) (nat_cmp p q) ≡ nat_cmp (x * power + p) (y * power + q)
digits_decide power x y p q fits_p fits_q =
    ⊎_elim (λ (same : x ≡ y).
    ap (λ o. ordering_then o (nat_cmp p q)) (sym (nat_cmp_is x y Equal same))
    ∙ sym (after_same (x * power) (y * power) p q (ap (λ n. n * power) same)))
    (⊎_elim (λ (less : x < y).
    ap (λ o. ordering_then o (nat_cmp p q)) (sym (nat_cmp_is x y Less less))
    ∙ nat_cmp_is (x * power + p) (y * power + q) Less (lower_digit power x y p q fits_p less))
    (λ (more : y < x).
    ap (λ o. ordering_then o (nat_cmp p q)) (sym (nat_cmp_is x y Greater more))
    ∙ nat_cmp_is (x * power + p) (y * power + q) Greater (lower_digit power y x q p fits_q more)))
    (cases_order x y)

-- each number is an octet, as it is told of what a slice has
abbrev pub AreBytes : List ℕ → Type 0
AreBytes octets = (i : ℕ) → slice_index octets i < 256

-- octets from a place on are written by less than the next power
below_power : (octets : List ℕ) → AreBytes octets → (place width : ℕ) → big_from place width octets < 256 ^ width
below_power octets bytes place width = big_from-lt place width octets bytes

from_place : (octets : List ℕ) (place : ℕ) → place < length octets → drop place octets ≡ get_or octets place 0 ∷ drop (suc place) octets
from_place octets place within =
    let next : place + 1 ≡ suc place = omega arith in
    drop_more octets place 0 within ∙ ap (λ n. get_or octets place 0 ∷ drop n octets) next

module _ (a b : List ℕ) (bytes_a : AreBytes a) (bytes_b : AreBytes b) where
  -- octets stand to each other as the numbers of so many do, and then as the rests
  first_decide : (width place : ℕ) → place + width ≤ length a → place + width ≤ length b → octets_cmp (drop place a) (drop place b) ≡ ordering_then (nat_cmp (big_from place width a) (big_from place width b)) (octets_cmp (drop (place + width) a) (drop (place + width) b))
  first_decide zero place in_a in_b = ap (λ n. octets_cmp (drop n a) (drop n b)) (sym (add-zero place))
  first_decide (suc width) place in_a in_b =
      let next : suc place + width ≡ place + suc width = omega arith in
      let rest = octets_cmp (drop (place + suc width) a) (drop (place + suc width) b) in
      let x = get_or a place 0 in
      let y = get_or b place 0 in
      let p = big_from (suc place) width a in
      let q = big_from (suc place) width b in
      (λ i. octets_cmp (from_place a place (omega arith) i) (from_place b place (omega arith) i))
      ∙ ap (λ o. ordering_then (nat_cmp x y) o) (first_decide width (suc place) (omega arith) (omega arith) ∙ ap (λ n. ordering_then (nat_cmp p q) (octets_cmp (drop n a) (drop n b))) next)
      ∙ then_assoc (nat_cmp x y) (nat_cmp p q) rest
      ∙ ap (λ o. ordering_then o rest) (digits_decide (256 ^ width) x y p q (below_power a bytes_a (suc place) width) (below_power b bytes_b (suc place) width))

  module _ (word : ℕ) (in_a : 8 * word + 8 ≤ length a) (in_b : 8 * word + 8 ≤ length b) (so_far : octets_cmp a b ≡ octets_cmp (drop (8 * word) a) (drop (8 * word) b)) (order : Ordering) (is : order ≡ nat_cmp (number_at a (8 * word) 8) (number_at b (8 * word) 8)) where
    word_decides : octets_cmp a b ≡ ordering_then order (octets_cmp (drop (8 * word + 8) a) (drop (8 * word + 8) b))
    word_decides =
        so_far ∙ first_decide 8 (8 * word) in_a in_b
        ∙ ap (λ o. ordering_then o (octets_cmp (drop (8 * word + 8) a) (drop (8 * word + 8) b)))
        (sym (is ∙ (λ i. nat_cmp (number_at-big_from a (8 * word) 8 in_a i) (number_at-big_from b (8 * word) 8 in_b i))))

    -- eight octets that are the same leave it to those behind them
    pub tied_word : order ≡ Equal → octets_cmp a b ≡ octets_cmp (drop (8 * (word + 1)) a) (drop (8 * (word + 1)) b)
    tied_word tied =
        let next : 8 * word + 8 ≡ 8 * (word + 1) = omega arith in
        word_decides ∙ ap (λ o. ordering_then o (octets_cmp (drop (8 * word + 8) a) (drop (8 * word + 8) b))) tied
        ∙ ap (λ n. octets_cmp (drop n a) (drop n b)) next

    -- others decide
    pub untied_word : order ≢ Equal → order ≡ octets_cmp a b
    untied_word other = sym (untied order _ other) ∙ sym word_decides
