-- The laws of the numbers that octets write, for proofs: such a number is the sum of the octets, each by its power of
-- 256.
use Rattle.std.proofs.Common.{◌≡◌, ℕ, zero, suc, ◌+◌, ◌-◌, ◌*◌, ◌^◌, ◌≤◌, List, length, get_or, take, drop, refl, sym, ap, ◌∙◌, arith, add_assoc, add-zero, add-suc}
use Rattle.std.proofs.Math.Nat.{add-mul, mul_assoc, mul_comm, pow-suc}
use Rattle.std.proofs.lemmas.List.{drop_more, get_or-drop, take_rest}
use Rattle.std.specs.Int.Digits.{number_from_digits_after}
use Rattle.byteorder.specs.Endian.{big_from, big_number}
use Rattle.dnsv_names.specs.Octets.{number_at}

-- the octets from the place on, behind others that write `front`
from_place : (octets : List ℕ) (front place width : ℕ) → place + width ≤ length octets → number_from_digits_after 256 front (take width (drop place octets)) ≡ front * 256 ^ width + big_from place width octets
from_place octets front place zero within = omega arith
from_place octets front place (suc width) within =
    let octet = get_or octets place 0 in
    let next : place + 1 ≡ suc place = omega arith in
    let power : 256 ^ suc width ≡ 256 * 256 ^ width = pow-suc 256 width ∙ mul_comm (256 ^ width) 256 in
    let spread : (front * 256 + octet) * 256 ^ width ≡ front * 256 ^ suc width + octet * 256 ^ width =
    add-mul (front * 256) octet (256 ^ width) ∙ ap (λ n. n + octet * 256 ^ width) (mul_assoc front 256 (256 ^ width) ∙ ap (λ n. front * n) (sym power)) in
    ap (λ xs. number_from_digits_after 256 front (take (suc width) xs)) (drop_more octets place 0 (omega arith))
    ∙ ap (λ n. number_from_digits_after 256 (front * 256 + octet) (take width (drop n octets))) next
    ∙ from_place octets (front * 256 + octet) (suc place) width (omega arith)
    ∙ ap (λ n. n + big_from (suc place) width octets) spread ∙ add_assoc (front * 256 ^ suc width) (octet * 256 ^ width) (big_from (suc place) width octets)

-- reading behind a place is reading from the place on
big_from-drop : (octets : List ℕ) (place i n : ℕ) → big_from i n (drop place octets) ≡ big_from (place + i) n octets
big_from-drop octets place i zero = refl
big_from-drop octets place i (suc n) =
    rw (get_or-drop place octets i 0, big_from-drop octets place (suc i) n, add-suc place i) refl

pub number_at-big_from : (octets : List ℕ) (place width : ℕ) → place + width ≤ length octets → number_at octets place width ≡ big_from place width octets
number_at-big_from octets place width within = from_place octets 0 place width within ∙ omega arith

-- the number of the octets from a place on
pub number_of_rest : (octets : List ℕ) (place width : ℕ) → place + width ≤ length octets → big_number width (take (length octets - place) (drop place octets)) ≡ number_at octets place width
number_of_rest octets place width within =
    ap (big_number width) (take_rest octets place) ∙ big_from-drop octets place 0 width
    ∙ ap (λ i. big_from i width octets) (add-zero place) ∙ sym (number_at-big_from octets place width within)
