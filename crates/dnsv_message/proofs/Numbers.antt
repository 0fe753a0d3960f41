-- Numbers and labels where they stand in a message.
use Rattle.std.proofs.Common.{◌≡◌, ℕ, zero, suc, ◌+◌, ◌-◌, ◌<◌, ◌≤◌, List, [], ◌∷◌, length, get_or, take, drop, refl, sym, ap, ◌∙◌, arith, length-drop, Bool, true, false, not}
use Rattle.std.proofs.lemmas.List.{drop_more, length-take-le}
use Rattle.std.proofs.lemmas.List.Elements.{All-from_get_or, All-take, All-drop, recursion_from_All}
use Rattle.std.proofs.lemmas.Bool.{false≢true}
use Rattle.std.specs.List.{AllByRecursion}
use Rattle.byteorder.specs.Endian.{big_from}
use Rattle.dnsv_names.specs.Octets.{AreOctets, number_at}
use Rattle.dnsv_names.specs.Octets.OctetLaws.{number_at-big_from}
use Rattle.dnsv_message.specs.Grammar.{part_of}
use Rattle.dnsv_message.specs.NameAt.{NumberAt, LabelAt}

-- the number at a place is the sum of its octets, each by its power of 256
pub number_sum : (octets : List ℕ) (place width n : ℕ) → NumberAt octets place width n → n ≡ big_from place width octets
number_sum octets place width n at = at.1 ∙ number_at-big_from octets place width at.0

pub number_from : (octets : List ℕ) (place width n : ℕ) → place + width ≤ length octets → n ≡ big_from place width octets → NumberAt octets place width n
number_from octets place width n within same = (within, same ∙ sym (number_at-big_from octets place width within))

-- and that of the octets behind the place
pub number_behind : (octets : List ℕ) (place n : ℕ) → place + n ≤ length octets → number_at octets place n ≡ big_from 0 n (drop place octets)
number_behind octets place n within = number_at-big_from (drop place octets) 0 n (omega (arith, within, length-drop place octets))

-- the octets of a part are octets
pub octets_of_part : (octets : List ℕ) (place n : ℕ) → ((i : ℕ) → get_or octets i 0 < 256) → AllByRecursion (λ octet. octet < 256) (take n (drop place octets))
octets_of_part octets place n fit = recursion_from_All (λ octet. octet < 256) (take n (drop place octets))
    (All-take (λ octet. octet < 256) n (drop place octets)
    (All-drop (λ octet. octet < 256) place octets
    (All-from_get_or (λ octet. octet < 256) octets 0 (λ i within. fit i))))

-- behind a length stands its label, where the octets are long enough
pub label_here : (octets : List ℕ) (place n : ℕ) → ((i : ℕ) → get_or octets i 0 < 256) → NumberAt octets place 1 n → 0 < n → n ≤ 63 → place + (1 + n) ≤ length octets → (label : List ℕ) × LabelAt octets place label × (n ≡ length label)
label_here octets place n fit octet not_empty small within =
    let first_is : get_or octets place 0 ≡ n = omega (arith, number_sum octets place 1 n octet) in
    let size : length (take n (drop (place + 1) octets)) ≡ n = length-take-le n (drop (place + 1) octets) (omega (arith, length-drop (place + 1) octets)) in (
      take n (drop (place + 1) octets),
      (
        record { not_empty = omega (arith, size); at_most_63 = omega (arith, size); octets = octets_of_part octets (place + 1) n fit },
        ap (take (suc (length (take n (drop (place + 1) octets))))) (drop_more octets place 0 (omega arith))
            ∙ ap (λ k. k ∷ take (length (take n (drop (place + 1) octets))) (drop (place + 1) octets)) (first_is ∙ sym size)
            ∙ ap (λ k. length (take n (drop (place + 1) octets)) ∷ take k (drop (place + 1) octets)) size,
      ),
      sym size,
    )

-- the part from a place up to its end
pub part_same : (octets : List ℕ) (start size : ℕ) → take (start + size - start) (drop start octets) ≡ part_of octets start size
part_same octets start size =
    let many : start + size - start ≡ size = omega arith in
    ap (λ n. take n (drop start octets)) many

pub true_from_not_false : (b : Bool) → false ≡ not b → b ≡ true
true_from_not_false true h = refl
true_from_not_false false h = absurd (false≢true h)

-- an octet is below 256, and so is the 0 past the end
pub octet_fits : (octets : List ℕ) → AreOctets octets → (i : ℕ) → get_or octets i 0 < 256
octet_fits [] are i = omega arith
octet_fits (octet ∷ octets) are zero = are.0
octet_fits (octet ∷ octets) are (suc i) = octet_fits octets are.1 i
