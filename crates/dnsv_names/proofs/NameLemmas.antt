-- Wire forms: what they spell, how they begin and end, and what lower case leaves of them.
use Rattle.std.proofs.Common.{◌≡◌, ℕ, zero, suc, ◌+◌, ◌<◌, ◌≤◌, List, [], ◌∷◌, ◌++◌, length, get_or, take, drop, map, sym, ap, ◌∙◌, arith, length-drop, add-zero, add_assoc, ⊎_elim, Some, Bool}
use Rattle.std.proofs.lemmas.Bool.{cases_lt}
use Rattle.std.proofs.lemmas.List.{take_at, drop_at, drop-drop, drop_more, drop_all, get_or-drop, append-nil, take_all}
use Rattle.std.specs.Bool.{Decides, one_answer}
use Rattle.std.specs.Char.{to_ascii_lowercase}
use Rattle.std.proofs.lemmas.Option.{slice_get-get_or}
use Rattle.std.specs.List.{AllByRecursion, refill, slice_get}
use Rattle.dnsv_names.specs.Name.{Labels, IsLabel, IsName, wire, lower_case, SameName, same_name}
use Rattle.dnsv_names.specs.Order.OrderLaws.{same_name_Decides}
use Rattle.dnsv_names.specs.Name.WireLaws.{labels_of-wire, wire-injective, wire_not_empty, lower_case-wire, lower_labels}
use Rattle.dnsv_names.specs.Name.Spelling.{labels_of, SpellsName}

-- a slice that is written as a whole is what was written
pub refill_same : (old new : List ℕ) → length new ≡ length old → refill (length old) old new ≡ new
refill_same old new size =
    rw (drop_all (length new) old (omega (arith, size)), append-nil new) (take_all (length old) new (omega (arith, size)))

-- the wire form of a name spells it
pub SpellsName-wire : (labels : Labels) (octets : List ℕ) → IsName labels → octets ≡ wire labels → SpellsName octets
SpellsName-wire labels octets name same =
    let spelled : labels_of octets ≡ labels = ap labels_of same ∙ labels_of-wire labels name.each in
    record { name = rw spelled name; whole = rw spelled same }

pub length_spelled : (octets : List ℕ) → SpellsName octets → length octets ≤ 255
length_spelled octets spells = omega (arith, ap length spells.whole, spells.name.at_most_255)

each_at : (labels : Labels) (k : ℕ) → AllByRecursion IsLabel labels → k < length labels → IsLabel (get_or labels k [])
each_at [] k each more = absurd (omega arith)
each_at (label ∷ labels) zero each more = each.0
each_at (label ∷ labels) (suc k) each more = each_at labels k each.1 (omega arith)

-- behind the place stand the octets of the labels from k on
pub record Stands (octets : List ℕ) (place : ℕ) (labels : Labels) (k : ℕ) : Type 0 where
  pub form : drop place octets ≡ wire (drop k labels)

pub Stands-start : (octets : List ℕ) → SpellsName octets → Stands octets 0 (labels_of octets) 0
Stands-start octets spells = record { form = spells.whole }

module _ {octets : List ℕ} {place : ℕ} {labels : Labels} {k : ℕ} (stands : Stands octets place labels k) where
  -- the octet at the place is the first of that wire form
  first_octet : get_or octets place 0 ≡ get_or (wire (drop k labels)) 0 0
  first_octet = ap (λ n. get_or octets n 0) (sym (add-zero place)) ∙ sym (get_or-drop place octets 0 0) ∙ ap (λ xs. get_or xs 0 0) stands.form

  pub place_within : place < length octets
  place_within = omega (arith, wire_not_empty (drop k labels), length-drop place octets, ap length stands.form)

  pub label_length : k < length labels → get_or octets place 0 ≡ length (get_or labels k [])
  label_length more = first_octet ∙ ap (λ ls. get_or (wire ls) 0 0) (drop_more labels k [] more)

  -- the label at k, and what follows it
  pub label_stands : k < length labels → drop (place + 1) octets ≡ get_or labels k [] ++ wire (drop (k + 1) labels)
  label_stands more = sym (drop-drop 1 place octets) ∙ ap (drop 1) (stands.form ∙ ap wire (drop_more labels k [] more))

  pub Stands-next : k < length labels → Stands octets (place + (1 + get_or octets place 0)) labels (k + 1)
  Stands-next more = record {
    form =
        ap (λ n. drop n octets) (sym (add_assoc place 1 (get_or octets place 0)))
        ∙ sym (drop-drop (get_or octets place 0) (place + 1) octets)
        ∙ ap (drop (get_or octets place 0)) (label_stands more)
        ∙ drop_at (get_or labels k []) (wire (drop (k + 1) labels)) (get_or octets place 0) (sym (label_length more));
  }

  -- a length that isn't 0 belongs to a label, and 0 to the root
  pub label_left : k ≤ length labels → (get_or octets place 0 ≡ 0 → ⊥) → k < length labels
  label_left within not_root = ⊎_elim (λ more. more)
      (λ (none : length labels ≤ k). absurd (not_root (first_octet ∙ ap (λ ls. get_or (wire ls) 0 0) (drop_all k labels none))))
      (cases_lt k (length labels))

  pub root_reached : AllByRecursion IsLabel labels → k ≤ length labels → get_or octets place 0 ≡ 0 → k ≡ length labels
  root_reached each within root = ⊎_elim
      (λ (more : k < length labels). absurd (omega (arith, label_length more, (each_at labels k each more).not_empty)))
      (λ (none : length labels ≤ k). omega arith)
      (cases_lt k (length labels))

  -- the label's octets, behind its length
  pub label_octets : (n : ℕ) → k < length labels → n ≡ get_or octets place 0 → take n (drop (place + 1) octets) ≡ get_or labels k []
  label_octets n more size =
      ap (take n) (label_stands more) ∙ take_at (get_or labels k []) (wire (drop (k + 1) labels)) n (sym (size ∙ label_length more))

-- the test of equal names is the same fact on their wire forms
pub same_name_from_wire : (xs ys : List ℕ) (answer : Bool) → SpellsName xs → SpellsName ys → Decides answer (map to_ascii_lowercase xs ≡ map to_ascii_lowercase ys) → answer ≡ same_name (labels_of xs) (labels_of ys)
same_name_from_wire xs ys answer x y decides =
    let lower_x : map to_ascii_lowercase xs ≡ wire (lower_case (labels_of xs)) = ap (map to_ascii_lowercase) x.whole ∙ lower_case-wire _ x.name.each in
    let lower_y : map to_ascii_lowercase ys ≡ wire (lower_case (labels_of ys)) = ap (map to_ascii_lowercase) y.whole ∙ lower_case-wire _ y.name.each in
    let same : Decides answer (SameName (labels_of xs) (labels_of ys)) = (
      λ yes. wire-injective _ _ (lower_labels _ x.name.each) (lower_labels _ y.name.each) (sym lower_x ∙ decides.0 yes ∙ lower_y),
      λ alike. decides.1 (lower_x ∙ ap wire alike ∙ sym lower_y),
    ) in
    one_answer answer _ same (same_name_Decides (labels_of xs) (labels_of ys))

-- what the place of a label is worth, for the labels `name` that the octets spell
pub record LabelAt (octets : List ℕ) (place : ℕ) (name : Labels) (i : ℕ) : Type 0 where
  pub within : place + (1 + get_or octets place 0) < length octets
  pub octets_of : (n : ℕ) → n ≡ get_or octets place 0 → slice_get name i ≡ Some (take n (drop (place + 1) octets))

pub label_found : (octets : List ℕ) (place : ℕ) (name : Labels) (i : ℕ) → labels_of octets ≡ name → i < length name → drop place octets ≡ wire (drop i (labels_of octets)) → LabelAt octets place name i
label_found octets place name i same within form =
    let more : i < length (labels_of octets) = omega (arith, ap length same) in
    let stands : Stands octets place (labels_of octets) i = record { form = form } in
    record {
      within = place_within (Stands-next stands more);
      octets_of = λ n size. ap (λ labels. slice_get labels i) (sym same) ∙ slice_get-get_or (labels_of octets) i [] more ∙ ap Some (sym (label_octets stands n more size));
    }
