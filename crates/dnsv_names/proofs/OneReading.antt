-- A text has at most one reading, or one first fault: reading it from the left is a function.
use Rattle.std.proofs.Common.{◌≡◌, ◌≢◌, ◌⊎◌, ℕ, suc, zero, ◌+◌, ◌<◌, ◌≤◌, List, [], ◌∷◌, ◌++◌, length, refl, sym, ap, ◌∙◌, arith, append_assoc, length-append, zero-add, true, false, cond, Option, Some, None, Result, Ok, Err, ◌==◌, nat_lt, ⊎_elim, subst}
use Rattle.std.proofs.lemmas.Bool.Decides.{nat_tests}
use Rattle.std.proofs.lemmas.List.{append-nil}
use Rattle.std.specs.List.{AllByRecursion}
use Rattle.dnsv_names.specs.Name.{Labels, IsLabel, IsName, wire}
use Rattle.dnsv_names.specs.Text.Reading.{octet_of}
use Rattle.dnsv_names.specs.Text.{SpellsOctet, SpellsLabel, SpellsLabels, IsTextOf, IsFaultAt, SpellsSoFar, FirstFault, BeginsDot, BeginsOctet}
use Rattle.dnsv_names.specs.declared.error.NameError.{NameError}
use Rattle.dnsv_names.specs.declared.error.NameError.TheVariants.{BadEscape, EmptyLabel, LongLabel, LongName, NotAbsolute}
use Rattle.dnsv_names.proofs.ParseLemmas.{OctetThen, octet_of_spelled, octet_found}

-- what stands in front of a text
data Front : Type 0 where
  Ends : Front
  Dot : List ℕ → Front
  Octet : ℕ → List ℕ → Front
  Bad : Front

abbrev octet_in_front : Option (ℕ × List ℕ) → Front
octet_in_front None = Bad
octet_in_front (Some found) = Octet found.0 found.1

abbrev front_of : List ℕ → Front
front_of [] = Ends
front_of (c ∷ text) = cond (c == 46) (Dot text) (octet_in_front (octet_of (c ∷ text)))

abbrev at_end : Labels → List ℕ → Result Labels NameError
at_end [] begun = Err NotAbsolute
at_end (label ∷ whole) [] = Ok (label ∷ whole)
at_end (label ∷ whole) (octet ∷ begun) = Err NotAbsolute

-- one step of reading, and what reads on from there
abbrev step : (Labels → List ℕ → List ℕ → Result Labels NameError) → Labels → List ℕ → Front → Result Labels NameError
step next whole begun Ends = at_end whole begun
step next whole [] (Dot rest) = Err EmptyLabel
step next whole (octet ∷ octets) (Dot rest) =
    cond (nat_lt 255 (length (wire (whole ++ (octet ∷ octets) ∷ [])))) (Err LongName) (next (whole ++ (octet ∷ octets) ∷ []) [] rest)
step next whole begun (Octet octet rest) = cond (nat_lt (length begun) 63) (next whole (begun ++ octet ∷ []) rest) (Err LongLabel)
step next whole begun Bad = Err BadEscape

-- what a text is read as, from a place on, in so many steps
abbrev read_on : ℕ → Labels → List ℕ → List ℕ → Result Labels NameError
read_on zero whole begun text = Err BadEscape
read_on (suc steps) whole begun text = step (read_on steps) whole begun (front_of text)

-- no text of an octet begins with a dot
pub no_dot : (c : ℕ) (piece : List ℕ) (octet : ℕ) → SpellsOctet (c ∷ piece) octet → c ≢ 46
no_dot c [] octet spells = spells.1
no_dot b (c ∷ []) octet spells = λ dot. omega (arith, spells.0)
no_dot b (x ∷ y ∷ []) octet spells = absurd spells
no_dot b (x ∷ y ∷ z ∷ []) octet spells = λ dot. omega (arith, spells.0)
no_dot b (x ∷ y ∷ z ∷ d ∷ more) octet spells = absurd spells

not_equal : (c n : ℕ) → c ≢ n → (c == n) ≡ false
not_equal c n other = grind (arith, nat_tests)

front_octet : (piece rest : List ℕ) (octet : ℕ) → SpellsOctet piece octet → front_of (piece ++ rest) ≡ Octet octet rest
front_octet [] rest octet spells = absurd spells
front_octet (c ∷ piece) rest octet spells =
    ap (λ b. cond b (Dot (piece ++ rest)) (octet_in_front (octet_of (c ∷ (piece ++ rest))))) (not_equal c 46 (no_dot c piece octet spells))
    ∙ ap octet_in_front (octet_of_spelled (c ∷ piece) rest octet spells)

below : (m n : ℕ) → m < n → nat_lt m n ≡ true
below m n less = grind (arith, nat_tests)

not_below : (m n : ℕ) → n ≤ m → nat_lt m n ≡ false
not_below m n more = grind (arith, nat_tests)

step_at_octet : (next : Labels → List ℕ → List ℕ → Result Labels NameError) (whole : Labels) (begun rest : List ℕ) (octet : ℕ) → step next whole begun (Octet octet rest) ≡ cond (nat_lt (length begun) 63) (next whole (begun ++ octet ∷ []) rest) (Err LongLabel)
step_at_octet next whole [] rest octet = refl
step_at_octet next whole (o ∷ begun) rest octet = refl

-- one octet more
step_octet : (steps : ℕ) (whole : Labels) (begun piece rest : List ℕ) (octet : ℕ) → SpellsOctet piece octet → length begun < 63 → read_on (suc steps) whole begun (piece ++ rest) ≡ read_on steps whole (begun ++ octet ∷ []) rest
step_octet steps whole begun piece rest octet spells room =
    ap (step (read_on steps) whole begun) (front_octet piece rest octet spells)
    ∙ step_at_octet (read_on steps) whole begun rest octet
    ∙ ap (λ b. cond b (read_on steps whole (begun ++ octet ∷ []) rest) (Err LongLabel)) (below (length begun) 63 room)

-- a dot behind a label
step_dot : (steps : ℕ) (whole : Labels) (label rest : List ℕ) → 0 < length label → length (wire (whole ++ label ∷ [])) ≤ 255 → read_on (suc steps) whole label (46 ∷ rest) ≡ read_on steps (whole ++ label ∷ []) [] rest
step_dot steps whole [] rest some fits = absurd (omega arith)
step_dot steps whole (octet ∷ octets) rest some fits =
    ap (λ b. cond b (Err LongName) (read_on steps (whole ++ (octet ∷ octets) ∷ []) [] rest)) (not_below 255 (length (wire (whole ++ (octet ∷ octets) ∷ []))) fits)

-- the octets of a label
steps_label : (label begun : List ℕ) (whole : Labels) (n : ℕ) (front rest : List ℕ) → SpellsLabel front label → length begun + length label ≤ 63 → read_on (length label + n) whole begun (front ++ rest) ≡ read_on n whole (begun ++ label) rest
steps_label [] begun whole n front rest spells room =
    ap (λ m. read_on m whole begun (front ++ rest)) (zero-add n) ∙ ap (λ text. read_on n whole begun (text ++ rest)) spells
    ∙ ap (λ octets. read_on n whole octets rest) (sym (append-nil begun))
steps_label (octet ∷ label) begun whole n front rest spells room =
    let more : suc (length label) + n ≡ suc (length label + n) = omega arith in
    ap (λ m. read_on m whole begun (front ++ rest)) more
    ∙ ap (read_on (suc (length label + n)) whole begun) (ap (λ text. text ++ rest) spells.2 ∙ append_assoc spells.0 spells.1 rest)
    ∙ step_octet (length label + n) whole begun spells.0 (spells.1 ++ rest) octet spells.3 (omega arith)
    ∙ steps_label label (begun ++ octet ∷ []) whole n spells.1 rest spells.4 (simp length-append (omega arith))
    ∙ ap (λ octets. read_on n whole octets rest) (append_assoc begun (octet ∷ []) label)

abbrev steps_of : Labels → ℕ
steps_of [] = 0
steps_of (label ∷ labels) = length label + suc (steps_of labels)

wire_front : (a b : Labels) → length (wire a) ≤ length (wire (a ++ b))
wire_front [] [] = omega arith
wire_front [] (label ∷ b) = omega arith
wire_front (label ∷ a) b = simp length-append (omega (arith, wire_front a b))

-- whole labels, and the dot behind each
steps_labels : (labels whole : Labels) (n : ℕ) (front rest : List ℕ) → SpellsLabels front labels → AllByRecursion IsLabel labels → length (wire (whole ++ labels)) ≤ 255 → read_on (steps_of labels + n) whole [] (front ++ rest) ≡ read_on n (whole ++ labels) [] rest
steps_labels [] whole n front rest spells each fits =
    ap (λ m. read_on m whole [] (front ++ rest)) (zero-add n) ∙ ap (λ text. read_on n whole [] (text ++ rest)) spells
    ∙ ap (λ labels. read_on n labels [] rest) (sym (append-nil whole))
steps_labels (label ∷ labels) whole n front rest spells each fits =
    let more : length label + suc (steps_of labels) + n ≡ length label + suc (steps_of labels + n) = omega arith in
    let regrouped : whole ++ label ∷ [] ++ labels ≡ whole ++ label ∷ labels = append_assoc whole (label ∷ []) labels in
    let small : length (wire (whole ++ label ∷ [])) ≤ 255 = omega (arith, wire_front (whole ++ label ∷ []) labels, ap (λ ls. length (wire ls)) regrouped) in
    ap (λ m. read_on m whole [] (front ++ rest)) more
    ∙ ap (read_on (length label + suc (steps_of labels + n)) whole []) (ap (λ text. text ++ rest) spells.2 ∙ append_assoc spells.0 (46 ∷ spells.1) rest)
    ∙ steps_label label [] whole (suc (steps_of labels + n)) spells.0 (46 ∷ (spells.1 ++ rest)) spells.3 (omega (arith, each.0.at_most_63))
    ∙ step_dot (steps_of labels + n) whole label (spells.1 ++ rest) each.0.not_empty small
    ∙ steps_labels labels (whole ++ label ∷ []) n spells.1 rest spells.4 each.1 (omega (arith, ap (λ ls. length (wire ls)) regrouped))
    ∙ ap (λ ls. read_on n ls [] rest) regrouped

-- where nothing is wrong so far, what is read from there on is what is read
steps_so_far : (front rest : List ℕ) (whole : Labels) (begun : List ℕ) (n : ℕ) → SpellsSoFar front whole begun → read_on (steps_of whole + (length begun + n)) [] [] (front ++ rest) ≡ read_on n whole begun rest
steps_so_far front rest whole begun n so_far =
    ap (read_on (steps_of whole + (length begun + n)) [] []) (ap (λ text. text ++ rest) so_far.form ∙ append_assoc so_far.dotted so_far.ending rest)
    ∙ steps_labels whole [] (length begun + n) so_far.dotted (so_far.ending ++ rest) so_far.labels so_far.name.each so_far.name.at_most_255
    ∙ steps_label begun [] whole n so_far.ending rest so_far.octets (omega (arith, so_far.at_most_63))

no_octet : (text : List ℕ) (found : Option (ℕ × List ℕ)) → octet_of text ≡ found → ¬ BeginsOctet text → octet_in_front found ≡ Bad
no_octet text None is none = refl
no_octet text (Some found) is none =
    let front : OctetThen text found.0 found.1 = octet_found text found.0 found.1 is in
    absurd (none (front.piece, found.1, found.0, front.form, front.spells))

bad_front : (rest : List ℕ) → rest ≢ [] → ¬ BeginsDot rest → ¬ BeginsOctet rest → front_of rest ≡ Bad
bad_front [] some dot octet = absurd (some refl)
bad_front (c ∷ rest) some dot octet =
    ap (λ b. cond b (Dot rest) (octet_in_front (octet_of (c ∷ rest)))) (not_equal c 46 (λ same. dot (rest, ap (λ d. d ∷ rest) same)))
    ∙ no_octet (c ∷ rest) (octet_of (c ∷ rest)) refl octet

module _ (next : Labels → List ℕ → List ℕ → Result Labels NameError) where
  step_at_bad : (whole : Labels) (begun : List ℕ) → step next whole begun Bad ≡ Err BadEscape
  step_at_bad whole [] = refl
  step_at_bad whole (octet ∷ begun) = refl

  step_at_long : (whole : Labels) (begun rest : List ℕ) → begun ≢ [] → 255 < length (wire (whole ++ begun ∷ [])) → step next whole begun (Dot rest) ≡ Err LongName
  step_at_long whole [] rest some long = absurd (some refl)
  step_at_long whole (octet ∷ begun) rest some long =
      ap (λ b. cond b (Err LongName) (next (whole ++ (octet ∷ begun) ∷ []) [] rest)) (below 255 (length (wire (whole ++ (octet ∷ begun) ∷ []))) long)

  step_at_end : (whole : Labels) (begun : List ℕ) → (begun ≢ []) ⊎ (whole ≡ []) → step next whole begun Ends ≡ Err NotAbsolute
  step_at_end [] [] unfinished = refl
  step_at_end [] (octet ∷ begun) unfinished = refl
  step_at_end (label ∷ whole) [] unfinished = ⊎_elim (λ (some : [] ≢ []). absurd (some refl)) (λ (none : label ∷ whole ≡ []). absurd (cc)) unfinished
  step_at_end (label ∷ whole) (octet ∷ begun) unfinished = refl

-- at a fault it is that fault
reads_fault : (fault : NameError) (whole : Labels) (begun rest : List ℕ) (n : ℕ) → IsFaultAt fault whole begun rest → read_on (suc n) whole begun rest ≡ Err fault
reads_fault BadEscape whole begun rest n at = ap (step (read_on n) whole begun) (bad_front rest at.0 at.1 at.2) ∙ step_at_bad (read_on n) whole begun
reads_fault EmptyLabel whole begun rest n at =
    ap (read_on (suc n) whole begun) at.0.1 ∙ ap (λ octets. read_on (suc n) whole octets (46 ∷ at.0.0)) at.1
reads_fault LongLabel whole begun rest n at =
    ap (step (read_on n) whole begun) (ap front_of at.0.3 ∙ front_octet at.0.0 at.0.1 at.0.2 at.0.4)
    ∙ step_at_octet (read_on n) whole begun at.0.1 at.0.2
    ∙ ap (λ b. cond b (read_on n whole (begun ++ at.0.2 ∷ []) at.0.1) (Err LongLabel)) (not_below (length begun) 63 (omega (arith, at.1)))
reads_fault LongName whole begun rest n at =
    ap (read_on (suc n) whole begun) at.0.1 ∙ step_at_long (read_on n) whole begun at.0.0 at.1 at.2
reads_fault NotAbsolute whole begun rest n at =
    ap (read_on (suc n) whole begun) at.0 ∙ step_at_end (read_on n) whole begun at.1

-- reading a text ends with the answer, if it goes on long enough
record Reads (text : List ℕ) (answer : Result Labels NameError) : Type 0 where
  steps : ℕ
  ends : (n : ℕ) → read_on (steps + suc n) [] [] text ≡ answer

reads_once : (text : List ℕ) (a b : Result Labels NameError) → Reads text a → Reads text b → a ≡ b
reads_once text a b left right =
    let as_long : left.steps + suc right.steps ≡ right.steps + suc left.steps = omega arith in
    sym (left.ends right.steps) ∙ ap (λ n. read_on n [] [] text) as_long ∙ right.ends left.steps

reads_first_fault : (text : List ℕ) (fault : NameError) → FirstFault text fault → Reads text (Err fault)
reads_first_fault text fault first = record {
  steps = steps_of first.whole + length first.begun;
  ends = λ n.
      let regrouped : steps_of first.whole + length first.begun + suc n ≡ steps_of first.whole + (length first.begun + suc n) = omega arith in
      ap (λ m. read_on m [] [] text) regrouped ∙ ap (read_on (steps_of first.whole + (length first.begun + suc n)) [] []) first.form
      ∙ steps_so_far first.front first.rest first.whole first.begun (suc n) first.so_far ∙ reads_fault fault first.whole first.begun first.rest n first.there;
}

reads_labels : (text : List ℕ) (label : List ℕ) (labels : Labels) → IsName (label ∷ labels) → SpellsLabels text (label ∷ labels) → Reads text (Ok (label ∷ labels))
reads_labels text label labels name spells = record {
  steps = steps_of (label ∷ labels);
  ends = λ n.
      ap (read_on (steps_of (label ∷ labels) + suc n) [] []) (sym (append-nil text))
      ∙ steps_labels (label ∷ labels) [] (suc n) text [] spells name.each name.at_most_255;
}

-- a dot alone spells no labels
root_alone : (label : List ℕ) (labels : Labels) → IsName (label ∷ labels) → SpellsLabels (46 ∷ []) (label ∷ labels) → ⊥
root_alone label labels name spells =
    let reads = reads_labels (46 ∷ []) label labels name spells in
    let one_more : reads.steps + 1 ≡ suc reads.steps = omega arith in
    let ends : Err EmptyLabel ≡ Ok (label ∷ labels) = ap (λ n. read_on n [] [] (46 ∷ [])) (sym one_more) ∙ reads.ends 0 in
    cc

pub one_name : (text : List ℕ) (a b : Labels) → IsName a → IsName b → IsTextOf text a → IsTextOf text b → a ≡ b
one_name text [] [] a_name b_name a_text b_text = refl
one_name text [] (label ∷ b) a_name b_name a_text b_text =
    let P : List ℕ → Type 0 = λ t. SpellsLabels t (label ∷ b) in absurd (root_alone label b b_name (subst P a_text b_text))
one_name text (label ∷ a) [] a_name b_name a_text b_text =
    let P : List ℕ → Type 0 = λ t. SpellsLabels t (label ∷ a) in absurd (root_alone label a a_name (subst P b_text a_text))
one_name text (x ∷ a) (y ∷ b) a_name b_name a_text b_text =
    let same = reads_once text (Ok (x ∷ a)) (Ok (y ∷ b)) (reads_labels text x a a_name a_text) (reads_labels text y b b_name b_text) in cc

pub one_fault : (text : List ℕ) (e f : NameError) → FirstFault text e → FirstFault text f → e ≡ f
one_fault text e f first second =
    let same = reads_once text (Err e) (Err f) (reads_first_fault text e first) (reads_first_fault text f second) in cc

pub name_or_fault : (text : List ℕ) (labels : Labels) (fault : NameError) → IsName labels → IsTextOf text labels → FirstFault text fault → ⊥
name_or_fault text [] fault name spells first = first.not_root spells
name_or_fault text (label ∷ labels) fault name spells first =
    let same = reads_once text (Ok (label ∷ labels)) (Err fault) (reads_labels text label labels name spells) (reads_first_fault text fault first) in cc
