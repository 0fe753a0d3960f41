-- The text that is written for a name.
use Rattle.std.proofs.Common.{◌≡◌, ℕ, ◌+◌, ◌-◌, ◌*◌, ◌/◌, ◌%◌, ◌<◌, ◌≤◌, List, [], ◌∷◌, ◌++◌, length, length-drop, get_or, take, drop, refl, sym, ap, ◌∙◌, arith, append_assoc, Bool, true, false, cond, ◌==◌, ◌||◌}
use Rattle.std.proofs.lemmas.Bool.Decides.{nat_tests}
use Rattle.std.proofs.lemmas.List.{take_all, take_more, flat_map_more}
use Rattle.std.specs.List.{AllByRecursion, flat_map}
use Rattle.std.specs.Char.{is_ascii_graphic}
use Rattle.dnsv_names.specs.Text.{octet_text, label_text, text_of, SpellsOctet, SpellsLabel, SpellsLabels, IsTextOf}
use Rattle.dnsv_names.specs.Name.{Labels, IsLabel, IsName, wire}
use Rattle.dnsv_names.specs.Name.WireLaws.{wire_not_empty}
use Rattle.dnsv_names.proofs.NameLemmas.{Stands, Stands-next, place_within, label_left, label_length, label_octets, root_reached}

-- the text of the first labels is written, and the wire form of the rest is left, for which there is room
pub record Writes (labels : Labels) (text : List ℕ) (size : ℕ) (rest : List ℕ) : Type 0 where
  pub k : ℕ
  pub within : k ≤ length labels
  pub form : rest ≡ wire (drop k labels)
  pub written : text ≡ flat_map (λ each. label_text each ++ 46 ∷ []) (take k labels)
  pub room : size + 4 * length rest ≤ 1020

pub some_rest : {labels : Labels} {text : List ℕ} {size : ℕ} {rest : List ℕ} → Writes labels text size rest → 0 < length rest
some_rest {labels} so_far = omega (arith, ap length so_far.form, wire_not_empty (drop so_far.k labels))

-- what is known of a label in front of the rest
pub record NextLabel (labels : Labels) (text : List ℕ) (size : ℕ) (rest label next : List ℕ) : Type 0 where
  pub room : size + 4 * length label + 1 ≤ 1016
  pub shorter : length next < length rest
  pub on : (more : List ℕ) (larger : ℕ) → more ≡ text ++ (label_text label ++ 46 ∷ []) → larger ≤ size + 4 * length label + 1 → Writes labels more larger next

pub label_in_front : {labels : Labels} {text : List ℕ} {size : ℕ} {rest : List ℕ} → Writes labels text size rest → (get_or rest 0 0 ≡ 0 → ⊥) → get_or rest 0 0 < length rest
label_in_front {labels} {text} {size} {rest} so_far not_root =
    let stands : Stands rest 0 labels so_far.k = record { form = so_far.form } in
    omega (arith, place_within (Stands-next stands (label_left stands so_far.within not_root)))

pub next_label : (labels : Labels) (text : List ℕ) (size : ℕ) (rest label next : List ℕ) → Writes labels text size rest → (get_or rest 0 0 ≡ 0 → ⊥) → label ≡ take (get_or rest 0 0) (drop 1 rest) → next ≡ drop (1 + get_or rest 0 0) rest → NextLabel labels text size rest label next
next_label labels text size rest label next so_far not_root first behind =
    let stands : Stands rest 0 labels so_far.k = record { form = so_far.form } in
    let more : so_far.k < length labels = label_left stands so_far.within not_root in
    let is : label ≡ get_or labels so_far.k [] = first ∙ label_octets stands (get_or rest 0 0) more refl in
    let size_is : get_or rest 0 0 ≡ length label = label_length stands more ∙ ap length (sym is) in
    let after : Stands rest (0 + (1 + get_or rest 0 0)) labels (so_far.k + 1) = Stands-next stands more in
    let place : 1 + get_or rest 0 0 ≡ 0 + (1 + get_or rest 0 0) = omega arith in
    let in_rest = place_within after in
    let left : length next ≡ length rest - (1 + get_or rest 0 0) = ap length behind ∙ length-drop (1 + get_or rest 0 0) rest in
    record {
      room = omega (arith, so_far.room, in_rest, size_is);
      shorter = omega (arith, left, in_rest);
      on = λ longer larger text_is bound. record {
        k = so_far.k + 1;
        within = omega arith;
        form = behind ∙ ap (λ n. drop n rest) place ∙ after.form;
        written = text_is ∙ ap (λ front. front ++ (label_text label ++ 46 ∷ [])) so_far.written
            ∙ ap (λ each. flat_map (λ each. label_text each ++ 46 ∷ []) (take so_far.k labels) ++ (label_text each ++ 46 ∷ [])) is
            ∙ flat_map_more (λ each. label_text each ++ 46 ∷ []) [] (take so_far.k labels) (get_or labels so_far.k [])
            ∙ ap (flat_map (λ each. label_text each ++ 46 ∷ [])) (sym (take_more labels so_far.k [] more));
        room = omega (arith, so_far.room, left, in_rest, size_is, bound);
      };
    }

-- at the root all labels are written
pub all_written : (labels : Labels) (text : List ℕ) (size : ℕ) (rest : List ℕ) → IsName labels → Writes labels text size rest → get_or rest 0 0 ≡ 0 → text ≡ flat_map (λ each. label_text each ++ 46 ∷ []) labels
all_written labels text size rest name so_far root =
    let stands : Stands rest 0 labels so_far.k = record { form = so_far.form } in
    so_far.written
    ∙ ap (flat_map (λ each. label_text each ++ 46 ∷ [])) (take_all so_far.k labels (omega (arith, root_reached stands name.each so_far.within root)))

one_of : (b : Bool) (x y : List ℕ) (octet : ℕ) → (b ≡ true → SpellsOctet x octet) → (b ≡ false → SpellsOctet y octet) → SpellsOctet (cond b x y) octet
one_of true x y octet first second = first refl
one_of false x y octet first second = second refl

special : (octet : ℕ) → (octet == 46 || octet == 92) ≡ true → SpellsOctet (92 ∷ octet ∷ []) octet
special octet is = (refl, (grind (arith, nat_tests), grind (arith, nat_tests)), (λ digit. grind (arith, nat_tests)), refl)

seen : (octet : ℕ) → (octet == 46 || octet == 92) ≡ false → is_ascii_graphic octet ≡ true → SpellsOctet (octet ∷ []) octet
seen octet plain is = ((grind (arith, nat_tests), grind (arith, nat_tests)), (λ dot. grind (arith, nat_tests)), (λ backslash. grind (arith, nat_tests)), refl)

digits : (octet : ℕ) → octet < 256 → is_ascii_graphic octet ≡ false → SpellsOctet (92 ∷ (48 + octet / 100) ∷ (48 + octet / 10 % 10) ∷ (48 + octet % 10) ∷ []) octet
digits octet small hidden = (refl, (omega arith, omega arith), (omega arith, omega arith), (omega arith, omega arith), omega arith, small)

-- what is written for an octet spells it
octet_text_spells : (octet : ℕ) → octet < 256 → SpellsOctet (octet_text octet) octet
octet_text_spells octet small =
    one_of (octet == 46 || octet == 92) (92 ∷ octet ∷ []) _ octet (special octet)
    (λ plain. one_of (is_ascii_graphic octet) (octet ∷ []) _ octet (seen octet plain) (digits octet small))

label_text_spells : (label : List ℕ) → AllByRecursion (λ octet. octet < 256) label → SpellsLabel (label_text label) label
label_text_spells [] each = refl
label_text_spells (octet ∷ label) each =
    (octet_text octet, label_text label, refl, octet_text_spells octet each.0, label_text_spells label each.1)

labels_text_spells : (labels : Labels) → AllByRecursion IsLabel labels → SpellsLabels (flat_map (λ each. label_text each ++ 46 ∷ []) labels) labels
labels_text_spells [] each = refl
labels_text_spells (label ∷ labels) each =
    (label_text label, flat_map (λ each. label_text each ++ 46 ∷ []) labels, append_assoc (label_text label) (46 ∷ []) _, label_text_spells label each.0.octets, labels_text_spells labels each.1)

-- what is written for a name spells it
pub text_of_spells : (labels : Labels) → IsName labels → IsTextOf (text_of labels) labels
text_of_spells [] name = refl
text_of_spells (label ∷ labels) name = labels_text_spells (label ∷ labels) name.each

pub text_of_labels : (labels : Labels) (octets : List ℕ) → octets ≡ wire labels → (get_or octets 0 0 ≡ 0 → ⊥) → flat_map (λ each. label_text each ++ 46 ∷ []) labels ≡ text_of labels
text_of_labels [] octets form not_root = absurd (not_root (ap (λ xs. get_or xs 0 0) form))
text_of_labels (label ∷ labels) octets form not_root = refl
