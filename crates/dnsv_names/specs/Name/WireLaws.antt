-- The laws of wire forms, for proofs: what they spell, and what lower case leaves of them.
use Rattle.std.proofs.Common.{◌≡◌, ℕ, ◌+◌, ◌*◌, ◌<◌, ◌≤◌, List, [], ◌∷◌, ◌++◌, length, map, refl, sym, ap, ◌∙◌, arith, append_assoc, length-append}
use Rattle.std.proofs.lemmas.Bool.Decides.{nat_tests}
use Rattle.std.proofs.lemmas.List.{take_at, map-append, length-map, append-nil, append_cancel_left}
use Rattle.std.specs.Char.{to_ascii_lowercase}
use Rattle.std.specs.List.{AllByRecursion}
use Rattle.dnsv_names.specs.Name.{Labels, IsLabel, IsName, wire, lower_case}
use Rattle.dnsv_names.specs.Name.Spelling.{labels_after, labels_of}

-- skipping the octets in front
pub labels_after-append : (front octets : List ℕ) → labels_after (length front) (front ++ octets) ≡ labels_of octets
labels_after-append [] octets = refl
labels_after-append (octet ∷ front) octets = labels_after-append front octets

-- a wire form spells its labels, whatever follows it
pub labels_of-append : (labels : Labels) (rest : List ℕ) → AllByRecursion IsLabel labels
    → labels_of (wire labels ++ rest) ≡ labels
labels_of-append [] rest each = refl
labels_of-append ([] ∷ labels) rest each = absurd (omega (arith, each.0.not_empty))
labels_of-append ((octet ∷ label) ∷ labels) rest each =
    rw (append_assoc label (wire labels) rest, take_at label (wire labels ++ rest) (length label) refl, labels_after-append label (wire labels ++ rest), labels_of-append labels rest each.1) refl

pub labels_of-wire : (labels : Labels) → AllByRecursion IsLabel labels → labels_of (wire labels) ≡ labels
labels_of-wire labels each = ap labels_of (sym (append-nil (wire labels))) ∙ labels_of-append labels [] each

-- two names of one wire form are one
pub wire-injective : (a b : Labels) → AllByRecursion IsLabel a → AllByRecursion IsLabel b → wire a ≡ wire b → a ≡ b
wire-injective a b a_each b_each same = sym (labels_of-wire a a_each) ∙ ap labels_of same ∙ labels_of-wire b b_each

-- each label takes two octets or more
pub length-wire : (labels : Labels) → AllByRecursion IsLabel labels → 2 * length labels + 1 ≤ length (wire labels)
length-wire [] each = omega arith
length-wire (label ∷ labels) each = simp length-append (omega (arith, each.0.not_empty, length-wire labels each.1))

pub wire_not_empty : (labels : Labels) → 0 < length (wire labels)
wire_not_empty [] = omega arith
wire_not_empty (label ∷ labels) = omega arith

pub lower_below : (n : ℕ) → n < 65 → to_ascii_lowercase n ≡ n
lower_below n small = grind (arith, nat_tests)

-- lower case leaves the lengths as they are, since none is a letter
pub lower_case-wire : (labels : Labels) → AllByRecursion IsLabel labels
    → map to_ascii_lowercase (wire labels) ≡ wire (lower_case labels)
lower_case-wire [] each = refl
lower_case-wire (label ∷ labels) each =
    let small : to_ascii_lowercase (length label) ≡ length label = lower_below (length label) (omega (arith, each.0.at_most_63)) in
    rw (small, map-append to_ascii_lowercase label (wire labels), lower_case-wire labels each.1, length-map label to_ascii_lowercase) refl

lower_octet : (octet : ℕ) → octet < 256 → to_ascii_lowercase octet < 256
lower_octet octet small = grind (arith, nat_tests)

lower_octets : (label : List ℕ) → AllByRecursion (λ octet. octet < 256) label
    → AllByRecursion (λ octet. octet < 256) (map to_ascii_lowercase label)
lower_octets [] each = tt
lower_octets (octet ∷ label) each = (lower_octet octet each.0, lower_octets label each.1)

pub lower_labels : (labels : Labels) → AllByRecursion IsLabel labels → AllByRecursion IsLabel (lower_case labels)
lower_labels [] each = tt
lower_labels (label ∷ labels) each =
    (record { not_empty = rw length-map each.0.not_empty; at_most_63 = rw length-map each.0.at_most_63; octets = lower_octets label each.0.octets }, lower_labels labels each.1)

-- a name in lower case is a name
pub IsName-lower_case : (labels : Labels) → IsName labels → IsName (lower_case labels)
IsName-lower_case labels name =
    let same = ap length (lower_case-wire labels name.each) in
    record {
      each =
          lower_labels labels name.each;
      at_most_255 = omega (arith, same, length-map (wire labels) to_ascii_lowercase, name.at_most_255);
    }

-- one name's wire form begins octets, and what follows it is one
pub wire-front : (a b : Labels) (after_a after_b : List ℕ) → AllByRecursion IsLabel a → AllByRecursion IsLabel b
    → wire a ++ after_a ≡ wire b ++ after_b → (a ≡ b) × (after_a ≡ after_b)
wire-front a b after_a after_b a_each b_each same =
    let alike : a ≡ b = sym (labels_of-append a after_a a_each) ∙ ap labels_of same ∙ labels_of-append b after_b b_each in
    (alike, append_cancel_left (wire b) after_a after_b (ap (λ name. wire name ++ after_a) (sym alike) ∙ same))
