-- The octet that the front of a text spells.
use Rattle.std.proofs.Common.{◌≡◌, ◌⊎◌, ℕ, ◌<◌, ◌≤◌, List, [], ◌∷◌, ◌++◌, length, refl, sym, ap, ◌∙◌, arith, append_assoc, Bool, true, false, cond, Some, None, inl, inr, ⊎_elim, ◌==◌, ◌&&◌, not, nat_lt}
use Rattle.std.specs.Char.{is_ascii_graphic, is_ascii_digit}
use Rattle.std.proofs.lemmas.Bool.Decides.{nat_tests}
use Rattle.std.proofs.lemmas.List.{append-nil}
use Rattle.std.specs.List.{AllByRecursion}
use Rattle.dnsv_names.specs.Name.{IsLabel}
use Rattle.dnsv_names.specs.Text.Reading.{octet_of, escaped_of, decimal_of, decimal_value}
use Rattle.dnsv_names.specs.Text.{SpellsOctet, SpellsLabel}

-- the text of an octet is read as that octet
pub octet_of_spelled : (piece rest : List ℕ) (octet : ℕ) → SpellsOctet piece octet → octet_of (piece ++ rest) ≡ Some (octet, rest)
octet_of_spelled [] rest octet spells = absurd spells
octet_of_spelled (c ∷ []) rest octet spells = grind (arith, nat_tests)
octet_of_spelled (b ∷ c ∷ []) rest octet spells = grind (arith, nat_tests)
octet_of_spelled (b ∷ x ∷ y ∷ []) rest octet spells = absurd spells
octet_of_spelled (b ∷ x ∷ y ∷ z ∷ []) rest octet spells = grind (arith, nat_tests)
octet_of_spelled (b ∷ x ∷ y ∷ z ∷ d ∷ more) rest octet spells = absurd spells

-- the front of the text spells the octet, and the rest stands behind it
pub record OctetThen (text : List ℕ) (octet : ℕ) (rest : List ℕ) : Type 0 where
  pub piece : List ℕ
  pub form : text ≡ piece ++ rest
  pub spells : SpellsOctet piece octet

-- which way a test went
chosen : {X : Type 0} (b : Bool) (x y z : X) → cond b x y ≡ z → ((b ≡ true) × (x ≡ z)) ⊎ ((b ≡ false) × (y ≡ z))
chosen true x y z e = inl (refl, e)
chosen false x y z e = inr (refl, e)

found_by : {X : Type 0} (b : Bool) (x y : X) → cond b (Some x) None ≡ Some y → (b ≡ true) × (x ≡ y)
found_by true x y e = (refl, cc)
found_by false x y e = absurd (cc)

three_digits : (x y z octet : ℕ) → (is_ascii_digit x && is_ascii_digit y && is_ascii_digit z && nat_lt (decimal_value x y z) 256) ≡ true → decimal_value x y z ≡ octet → SpellsOctet (92 ∷ x ∷ y ∷ z ∷ []) octet
three_digits x y z octet tests value =
    (refl, (grind (arith, nat_tests), grind (arith, nat_tests)), (grind (arith, nat_tests), grind (arith, nat_tests)), (grind (arith, nat_tests), grind (arith, nat_tests)), sym value, grind (arith, nat_tests))

decimal_found : (text : List ℕ) (octet : ℕ) (rest : List ℕ) → decimal_of text ≡ Some (octet, rest) → OctetThen (92 ∷ text) octet rest
decimal_found [] octet rest e = absurd (cc)
decimal_found (x ∷ []) octet rest e = absurd (cc)
decimal_found (x ∷ y ∷ []) octet rest e = absurd (cc)
decimal_found (x ∷ y ∷ z ∷ text) octet rest e =
    let h = found_by _ (decimal_value x y z, text) (octet, rest) e in
    record {
      piece = 92 ∷ x ∷ y ∷ z ∷ [];
      form = ap (λ (p : ℕ × List ℕ). 92 ∷ x ∷ y ∷ z ∷ p.1) h.1;
      spells = three_digits x y z octet h.0 (ap (λ (p : ℕ × List ℕ). p.0) h.1);
    }

seen_escaped : (c octet : ℕ) → is_ascii_digit c ≡ false → is_ascii_graphic c ≡ true → c ≡ octet → SpellsOctet (92 ∷ c ∷ []) octet
seen_escaped c octet no_digit seen same = (refl, (grind (arith, nat_tests), grind (arith, nat_tests)), (λ digit. grind (arith, nat_tests)), sym same)

escaped_found : (text : List ℕ) (octet : ℕ) (rest : List ℕ) → escaped_of text ≡ Some (octet, rest) → OctetThen (92 ∷ text) octet rest
escaped_found [] octet rest e = absurd (cc)
escaped_found (c ∷ text) octet rest e = ⊎_elim
    (λ (digit : (is_ascii_digit c ≡ true) × (decimal_of (c ∷ text) ≡ Some (octet, rest))). decimal_found (c ∷ text) octet rest digit.1)
    (λ (other : (is_ascii_digit c ≡ false) × (cond (is_ascii_graphic c) (Some (c, text)) None ≡ Some (octet, rest))).
    let h = found_by (is_ascii_graphic c) (c, text) (octet, rest) other.1 in
    record {
      piece = 92 ∷ c ∷ [];
      form = ap (λ (p : ℕ × List ℕ). 92 ∷ c ∷ p.1) h.1;
      spells = seen_escaped c octet other.0 h.0 (ap (λ (p : ℕ × List ℕ). p.0) h.1);
    })
    (chosen (is_ascii_digit c) (decimal_of (c ∷ text)) (cond (is_ascii_graphic c) (Some (c, text)) None) (Some (octet, rest)) e)

seen_plain : (c octet : ℕ) → (c == 92) ≡ false → (is_ascii_graphic c && not (c == 46)) ≡ true → c ≡ octet → SpellsOctet (c ∷ []) octet
seen_plain c octet no_backslash seen same =
    ((grind (arith, nat_tests), grind (arith, nat_tests)), (λ dot. grind (arith, nat_tests)), (λ backslash. grind (arith, nat_tests)), sym same)

pub octet_found : (text : List ℕ) (octet : ℕ) (rest : List ℕ) → octet_of text ≡ Some (octet, rest) → OctetThen text octet rest
octet_found [] octet rest e = absurd (cc)
octet_found (c ∷ text) octet rest e = ⊎_elim
    (λ (backslash : ((c == 92) ≡ true) × (escaped_of text ≡ Some (octet, rest))).
    let same : 92 ≡ c = grind (arith, nat_tests) in
    rw (← same) (escaped_found text octet rest backslash.1))
    (λ (other : ((c == 92) ≡ false) × (cond (is_ascii_graphic c && not (c == 46)) (Some (c, text)) None ≡ Some (octet, rest))).
    let h = found_by (is_ascii_graphic c && not (c == 46)) (c, text) (octet, rest) other.1 in
    record {
      piece = c ∷ [];
      form = ap (λ (p : ℕ × List ℕ). c ∷ p.1) h.1;
      spells = seen_plain c octet other.0 h.0 (ap (λ (p : ℕ × List ℕ). p.0) h.1);
    })
    (chosen (c == 92) (escaped_of text) (cond (is_ascii_graphic c && not (c == 46)) (Some (c, text)) None) (Some (octet, rest)) e)

-- the text so far spells the octets of a label, and the rest stands behind them
pub record SpelledSoFar (text label rest : List ℕ) : Type 0 where
  pub front : List ℕ
  pub form : text ≡ front ++ rest
  pub spells : SpellsLabel front label

-- one octet more at the end of a label
SpellsLabel-push : (label front piece : List ℕ) (octet : ℕ) → SpellsLabel front label → SpellsOctet piece octet → SpellsLabel (front ++ piece) (label ++ octet ∷ [])
SpellsLabel-push [] front piece octet spells more =
    (piece, [], ap (λ text. text ++ piece) spells ∙ sym (append-nil piece), more, refl)
SpellsLabel-push (first ∷ label) front piece octet spells more = (
  spells.0,
  spells.1 ++ piece,
  ap (λ text. text ++ piece) spells.2 ∙ append_assoc spells.0 spells.1 piece,
  spells.3,
  SpellsLabel-push label spells.1 piece octet spells.4 more,
)

pub SpelledSoFar-next : (text label rest : List ℕ) (octet : ℕ) (behind : List ℕ) → SpelledSoFar text label rest → octet_of rest ≡ Some (octet, behind) → SpelledSoFar text (label ++ octet ∷ []) behind
SpelledSoFar-next text label rest octet behind so_far found =
    let next : OctetThen rest octet behind = octet_found rest octet behind found in
    record {
      front = so_far.front ++ next.piece;
      form = so_far.form ∙ ap (λ text. so_far.front ++ text) next.form ∙ sym (append_assoc so_far.front next.piece behind);
      spells = SpellsLabel-push label so_far.front next.piece octet so_far.spells next.spells;
    }

-- each octet that is spelled is one
octet_small : (piece : List ℕ) (octet : ℕ) → SpellsOctet piece octet → octet < 256
octet_small [] octet spells = absurd spells
octet_small (c ∷ []) octet spells = omega (arith, spells.0.1, spells.3)
octet_small (b ∷ c ∷ []) octet spells = omega (arith, spells.1.1, spells.3)
octet_small (b ∷ x ∷ y ∷ []) octet spells = absurd spells
octet_small (b ∷ x ∷ y ∷ z ∷ []) octet spells = spells.5
octet_small (b ∷ x ∷ y ∷ z ∷ d ∷ more) octet spells = absurd spells

label_small : (label front : List ℕ) → SpellsLabel front label → AllByRecursion (λ octet. octet < 256) label
label_small [] front spells = tt
label_small (octet ∷ label) front spells = (octet_small spells.0 octet spells.3, label_small label spells.1 spells.4)

-- at a dot behind octets, a label has been read
pub IsLabel-so_far : {text label rest : List ℕ} → SpelledSoFar text label rest → 0 < length label → length label ≤ 63 → IsLabel label
IsLabel-so_far {text} {label} so_far some room =
    record { not_empty = some; at_most_63 = room; octets = label_small label so_far.front so_far.spells }
