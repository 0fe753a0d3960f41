-- Octets in lower case, and their order, octet by octet.
use Rattle.std.proofs.Common.{◌≡◌, ◌≢◌, ℕ, ◌+◌, ◌-◌, ◌<◌, List, [], ◌∷◌, min, length-drop, length, get_or, drop, map, refl, sym, ap, ap₂, ◌∙◌, arith, Bool, true, false, not, ◌==◌}
use Rattle.std.proofs.lemmas.Bool.Decides.{nat_tests}
use Rattle.std.proofs.lemmas.List.{drop_more, get_or-map, length-map}
use Rattle.std.proofs.lemmas.Str.Ascii.{lowercase-lowercase}
use Rattle.std.specs.Char.{to_ascii_lowercase}
use Rattle.std.specs.Ordering.{ordering_then, ordering_index, nat_cmp}
use Rattle.std.specs.declared.cmp.Ordering.{Ordering}
use Rattle.std.specs.declared.cmp.Ordering.TheVariants.{Equal}
use Rattle.dnsv_names.specs.Name.{Labels, lower_case}
use Rattle.dnsv_names.specs.Octets.{octets_cmp}

abbrev lower : List ℕ → List ℕ
lower octets = map to_ascii_lowercase octets

from_here : (octets : List ℕ) (i : ℕ) → i < length octets → drop i (lower octets) ≡ to_ascii_lowercase (get_or octets i 0) ∷ drop (i + 1) (lower octets)
from_here octets i within =
    drop_more (lower octets) i 0 (rw length-map within)
    ∙ ap (λ octet. octet ∷ drop (i + 1) (lower octets)) (get_or-map to_ascii_lowercase octets i 0 0 within)

-- what isn't tied decides
pub untied : (o rest : Ordering) → o ≢ Equal → ordering_then o rest ≡ o
untied Equal rest other = absurd (other refl)
untied o rest other = refl

module _ (a b : List ℕ) (i : ℕ) (in_a : i < length a) (in_b : i < length b) (so_far : octets_cmp (lower a) (lower b) ≡ octets_cmp (drop i (lower a)) (drop i (lower b))) (order : Ordering) (is : order ≡ nat_cmp (to_ascii_lowercase (get_or a i 0)) (to_ascii_lowercase (get_or b i 0))) where
  decided_here : octets_cmp (lower a) (lower b) ≡ ordering_then order (octets_cmp (drop (i + 1) (lower a)) (drop (i + 1) (lower b)))
  decided_here =
      so_far ∙ (λ j. octets_cmp (from_here a i in_a j) (from_here b i in_b j))
      ∙ ap (λ o. ordering_then o (octets_cmp (drop (i + 1) (lower a)) (drop (i + 1) (lower b)))) (sym is)

  -- octets that are the same leave it to those behind them
  pub tied_here : order ≡ Equal → octets_cmp (lower a) (lower b) ≡ octets_cmp (drop (i + 1) (lower a)) (drop (i + 1) (lower b))
  tied_here tied = decided_here ∙ ap (λ o. ordering_then o (octets_cmp (drop (i + 1) (lower a)) (drop (i + 1) (lower b)))) tied

  -- others decide
  pub untied_here : order ≢ Equal → order ≡ octets_cmp (lower a) (lower b)
  untied_here other = sym (untied order _ other) ∙ sym decided_here

-- where one list has ended, the lengths decide
lengths_decide : (s t : List ℕ) (m n : ℕ) → length s ≡ m - min m n → length t ≡ n - min m n → octets_cmp s t ≡ nat_cmp m n
lengths_decide [] [] m n left right = grind (arith, nat_tests)
lengths_decide [] (y ∷ t) m n left right = grind (arith, nat_tests)
lengths_decide (x ∷ s) [] m n left right = grind (arith, nat_tests)
lengths_decide (x ∷ s) (y ∷ t) m n left right = absurd (omega arith)

pub ended : (a b : List ℕ) (i : ℕ) → i ≡ min (length a) (length b) → octets_cmp (drop i (lower a)) (drop i (lower b)) ≡ nat_cmp (length a) (length b)
ended a b i is =
    lengths_decide (drop i (lower a)) (drop i (lower b)) (length a) (length b)
    (length-drop i (lower a) ∙ simp length-map (omega (arith, is))) (length-drop i (lower b) ∙ simp length-map (omega (arith, is)))

-- what the test of two orderings tells
pub tied_by_test : (o : Ordering) (test : Bool) → test ≡ not (ordering_index o == 1) → test ≡ false → o ≡ Equal
tied_by_test Equal test is answer = refl
tied_by_test o test is answer = absurd (cc)

pub untied_by_test : (o : Ordering) (test : Bool) → test ≡ not (ordering_index o == 1) → test ≡ true → o ≢ Equal
untied_by_test Equal test is answer = absurd (cc)
untied_by_test o test is answer = λ same. cc

-- ---- names

label_twice : (label : List ℕ) → lower (lower label) ≡ lower label
label_twice [] = refl
label_twice (octet ∷ label) = ap₂ (λ o l. o ∷ l) (lowercase-lowercase octet) (label_twice label)

-- lower case is the same in lower case
pub lower_twice : (name : Labels) → lower_case (lower_case name) ≡ lower_case name
lower_twice [] = refl
lower_twice (label ∷ name) = ap₂ (λ l n. l ∷ n) (label_twice label) (lower_twice name)
