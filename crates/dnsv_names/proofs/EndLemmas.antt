-- Octets that are alike from the right.
use Rattle.std.proofs.Common.{◌≡◌, ℕ, ◌+◌, ◌-◌, ◌<◌, ◌≤◌, List, length, get_or, drop, map, sym, ap, ◌∙◌, arith, length-drop, Bool, false, ⊎_elim}
use Rattle.std.proofs.lemmas.Bool.{cases_lt}
use Rattle.std.specs.Bool.{Decides}
use Rattle.std.proofs.lemmas.List.{drop-drop, drop-map, get_or-drop, get_or-map}
use Rattle.std.specs.Char.{to_ascii_lowercase}
use Rattle.dnsv_names.specs.Order.Ends.{EndAlike}

abbrev lower : List ℕ → List ℕ
lower octets = map to_ascii_lowercase octets

abbrev end_of : List ℕ → ℕ → List ℕ
end_of octets n = drop (length octets - n) octets

octet_of_end : (octets : List ℕ) (n m : ℕ) → n < m → m ≤ length octets → get_or (lower (end_of octets m)) (m - 1 - n) 0 ≡ to_ascii_lowercase (get_or octets (length octets - 1 - n) 0)
octet_of_end octets n m less within =
    let place : length octets - m + (m - 1 - n) ≡ length octets - 1 - n = omega arith in
    get_or-map to_ascii_lowercase (end_of octets m) (m - 1 - n) 0 0 (omega (arith, length-drop (length octets - m) octets))
    ∙ ap to_ascii_lowercase (get_or-drop (length octets - m) octets (m - 1 - n) 0 ∙ ap (λ i. get_or octets i 0) place)

-- each octet within ends that are alike is the same
pub end_at : (a b : List ℕ) (n m : ℕ) → EndAlike a b m → n < m → to_ascii_lowercase (get_or a (length a - 1 - n) 0) ≡ to_ascii_lowercase (get_or b (length b - 1 - n) 0)
end_at a b n m alike less =
    sym (octet_of_end a n m less alike.0) ∙ ap (λ octets. get_or octets (m - 1 - n) 0) alike.2 ∙ octet_of_end b n m less alike.1

shorter_end : (octets : List ℕ) (m n : ℕ) → m ≤ n → n ≤ length octets → lower (end_of octets m) ≡ drop (n - m) (lower (end_of octets n))
shorter_end octets m n less within =
    let place : length octets - n + (n - m) ≡ length octets - m = omega arith in
    ap lower (ap (λ i. drop i octets) (sym place) ∙ sym (drop-drop (n - m) (length octets - n) octets))
    ∙ sym (drop-map to_ascii_lowercase (n - m) (end_of octets n))

-- shorter ends are alike where longer ones are
pub end_less : (a b : List ℕ) (m n : ℕ) → EndAlike a b n → m ≤ n → EndAlike a b m
end_less a b m n alike less = (
  omega (arith, alike.0),
  omega (arith, alike.1),
  shorter_end a m n less alike.0 ∙ ap (drop (n - m)) alike.2 ∙ sym (shorter_end b m n less alike.1),
)

-- ends that are alike don't reach an octet that differs
pub end_stops : (a b : List ℕ) (n m : ℕ) (answer : Bool) → Decides answer (to_ascii_lowercase (get_or a (length a - 1 - n) 0) ≡ to_ascii_lowercase (get_or b (length b - 1 - n) 0)) → answer ≡ false → EndAlike a b m → m ≤ n
end_stops a b n m answer decides differ alike = ⊎_elim
    (λ (less : n < m). absurd (let same = decides.1 (end_at a b n m alike less) in cc))
    (λ (more : m ≤ n). more)
    (cases_lt n m)
