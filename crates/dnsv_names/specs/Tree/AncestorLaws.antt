-- The laws of a name's ancestors by their number of labels, and of wildcards, for proofs.
use Rattle.std.proofs.Common.{◌≡◌, ℕ, zero, suc, ◌+◌, ◌-◌, ◌<◌, ◌≤◌, ◌⊎◌, List, [], ◌∷◌, ◌++◌, length, get_or, take, drop, map, refl, sym, ap, ◌∙◌, arith, inl, inr, ⊎_elim, length-append, length-drop}
use Rattle.std.proofs.lemmas.List.{take-append-drop, drop_at, drop-map, drop-drop, drop_more, drop_all, length-map, map-append}
use Rattle.std.proofs.lemmas.Bool.{cases_lt}
use Rattle.std.specs.Char.{to_ascii_lowercase}
use Rattle.std.specs.List.{AllByRecursion}
use Rattle.dnsv_names.specs.Name.{Labels, IsLabel, IsName, wire, lower_case, SameName, IsAtOrBelow, rightmost}
use Rattle.dnsv_names.specs.Order.{IsBelow}
use Rattle.dnsv_names.specs.Tree.{asterisk, wildcard_of}
use Rattle.dnsv_names.specs.Tree.TreeLaws.{same_labels, ancestors_in_line, below_by_length, below_length}

lower_case-append : (a b : Labels) → lower_case (a ++ b) ≡ lower_case a ++ lower_case b
lower_case-append a b = map-append (λ label. map to_ascii_lowercase label) a b

-- a name is at or below what its last labels are
pub at_or_below_ends : (name above : Labels) (k : ℕ) → SameName (drop k name) above → IsAtOrBelow name above
at_or_below_ends name above k same = (
  take k name,
  ap lower_case (sym (take-append-drop k name)) ∙ lower_case-append (take k name) (drop k name)
      ∙ ap (λ labels. lower_case (take k name) ++ labels) same ∙ sym (lower_case-append (take k name) above),
)

pub ends_at_or_below : (name above : Labels) (k : ℕ) → k ≡ length name - length above → IsAtOrBelow name above
    → SameName (drop k name) above
ends_at_or_below name above k from below =
    let same : length name ≡ length (below.0 ++ above) = sym (length-map name _) ∙ ap length below.1 ∙ length-map (below.0 ++ above) _ in
    let front : length (lower_case below.0) ≡ k = omega (arith, length-append below.0 above, length-map below.0 (λ label. map to_ascii_lowercase label)) in
    sym (drop-map (λ label. map to_ascii_lowercase label) k name)
    ∙ ap (drop k) (below.1 ∙ lower_case-append below.0 above) ∙ drop_at (lower_case below.0) (lower_case above) k front

-- the rightmost labels: how many they are, those of them, none, all, all but one, and one more
pub rightmost_length : (name : Labels) (n : ℕ) → n ≤ length name → length (rightmost name n) ≡ n
rightmost_length name n within = omega (arith, length-drop (length name - n) name)

pub rightmost_rightmost : (name : Labels) (n m : ℕ) → m ≤ n → rightmost (rightmost name n) m ≡ rightmost name m
rightmost_rightmost name n m fewer =
    drop-drop (length (rightmost name n) - m) (length name - n) name
    ∙ ap (λ k. drop k name) (omega (arith, length-drop (length name - n) name))

pub rightmost_none : (name : Labels) → rightmost name 0 ≡ []
rightmost_none name = drop_all (length name - 0) name (omega arith)

pub rightmost_all : (name : Labels) (n : ℕ) → length name ≤ n → rightmost name n ≡ name
rightmost_all name n all = let none : length name - n ≡ 0 = omega arith in ap (λ k. drop k name) none

pub rightmost_parent : (label : List ℕ) (parent : Labels) → rightmost (label ∷ parent) (length parent) ≡ parent
rightmost_parent label parent =
    let one : length (label ∷ parent) - length parent ≡ 1 = omega arith in ap (λ k. drop k (label ∷ parent)) one

pub rightmost_more : (name : Labels) (n : ℕ) → n < length name
    → (label : List ℕ) × (rightmost name (n + 1) ≡ label ∷ rightmost name n)
rightmost_more name n more = (
  get_or name (length name - (n + 1)) [],
  drop_more name (length name - (n + 1)) [] (omega arith) ∙ ap (λ k. get_or name (length name - (n + 1)) [] ∷ drop k name) (omega arith),
)

-- a name is at or below its rightmost labels, and what it is at or below are its rightmost labels
pub rightmost_above : (name : Labels) (n : ℕ) → IsAtOrBelow name (rightmost name n)
rightmost_above name n = at_or_below_ends name (rightmost name n) (length name - n) refl

pub rightmost_same : (name above : Labels) → IsAtOrBelow name above → SameName (rightmost name (length above)) above
rightmost_same name above below = ends_at_or_below name above (length name - length above) refl below

pub rightmost_below : (name : Labels) (n : ℕ) → n < length name → IsBelow name (rightmost name n)
rightmost_below name n more =
    below_by_length name (rightmost name n) (rightmost_above name n) (omega (arith, rightmost_length name n (omega arith)))

pub rightmost_in_line : (name : Labels) (n m : ℕ) → m ≤ n → IsAtOrBelow (rightmost name n) (rightmost name m)
rightmost_in_line name n m fewer =
    at_or_below_ends (rightmost name n) (rightmost name m) (length (rightmost name n) - m) (ap lower_case (rightmost_rightmost name n m fewer))

-- the next closer name is below the closest encloser (RFC 5155 1.3)
pub rightmost_next_below : (name : Labels) (n : ℕ) → n < length name
    → IsBelow (rightmost name (n + 1)) (rightmost name n)
rightmost_next_below name n more =
    below_by_length (rightmost name (n + 1)) (rightmost name n) (rightmost_in_line name (n + 1) n (omega arith))
    (omega (arith, rightmost_length name n (omega arith), rightmost_length name (n + 1) (omega arith)))

-- what is above a name is above one with n labels too, or at or below the one with n + 1
pub above_or_next : (name above : Labels) (n : ℕ) → n < length name → IsAtOrBelow name above
    → IsAtOrBelow (rightmost name n) above ⊎ IsAtOrBelow above (rightmost name (n + 1))
above_or_next name above n more below =
    ⊎_elim
    (λ (longer : n < length above). inr (ancestors_in_line name (rightmost name (n + 1)) above (rightmost_above name (n + 1)) below (omega (arith, rightmost_length name (n + 1) (omega arith)))))
    (λ (shorter : length above ≤ n). inl (ancestors_in_line name above (rightmost name n) below (rightmost_above name n) (omega (arith, rightmost_length name n (omega arith)))))
    (cases_lt n (length above))

-- equal names have equal rightmost labels
pub rightmost_respects : (a b : Labels) (n : ℕ) → SameName a b → SameName (rightmost a n) (rightmost b n)
rightmost_respects a b n same =
    sym (drop-map (λ label. map to_ascii_lowercase label) (length a - n) a)
    ∙ ap (λ k. drop (k - n) (lower_case a)) (same_labels a b same) ∙ ap (drop (length b - n)) same
    ∙ drop-map (λ label. map to_ascii_lowercase label) (length b - n) b

-- equal names have wire forms of one length
pub length_lower_wire : (name : Labels) → length (wire (lower_case name)) ≡ length (wire name)
length_lower_wire [] = refl
length_lower_wire (label ∷ name) = simp (length-append, length-map) (omega (arith, length_lower_wire name))

pub same_wire_length : (a b : Labels) → SameName a b → length (wire a) ≡ length (wire b)
same_wire_length a b same = sym (length_lower_wire a) ∙ ap (λ name. length (wire name)) same ∙ length_lower_wire b

-- rightmost labels of a name are a name
each_drop : (n : ℕ) (labels : Labels) → AllByRecursion IsLabel labels → AllByRecursion IsLabel (drop n labels)
each_drop zero labels each = each
each_drop (suc n) [] each = tt
each_drop (suc n) (label ∷ labels) each = each_drop n labels each.1

wire_drop : (n : ℕ) (labels : Labels) → length (wire (drop n labels)) ≤ length (wire labels)
wire_drop zero labels = omega arith
wire_drop (suc n) [] = omega arith
wire_drop (suc n) (label ∷ labels) = simp length-append (omega (arith, wire_drop n labels))

pub IsName-drop : (n : ℕ) (labels : Labels) → IsName labels → IsName (drop n labels)
IsName-drop n labels name =
    record { each = each_drop n labels name.each; at_most_255 = omega (arith, wire_drop n labels, name.at_most_255) }

pub IsName-rightmost : (name : Labels) (n : ℕ) → IsName name → IsName (rightmost name n)
IsName-rightmost name n is_name = IsName-drop (length name - n) name is_name

-- the name behind a label is above it
pub parent_above : (label : List ℕ) (parent : Labels) → IsBelow (label ∷ parent) parent
parent_above label parent =
    below_by_length (label ∷ parent) parent (at_or_below_ends (label ∷ parent) parent 1 refl) (omega arith)

pub parent_at_or_below : (label : List ℕ) (parent above : Labels) → IsBelow (label ∷ parent) above
    → IsAtOrBelow parent above
parent_at_or_below label parent above below =
    ancestors_in_line (label ∷ parent) above parent below.0 (parent_above label parent).0 (omega (arith, below_length (label ∷ parent) above below))

pub parents_same : (a b : List ℕ) (x y : Labels) → SameName (a ∷ x) (b ∷ y) → SameName x y
parents_same a b x y same = ap (drop 1) same

-- wildcards
pub wildcard_below : (name : Labels) → IsBelow (wildcard_of name) name
wildcard_below name = parent_above asterisk name

pub wildcard_respects : (a b : Labels) → SameName a b → SameName (wildcard_of a) (wildcard_of b)
wildcard_respects a b same = ap (λ labels. asterisk ∷ labels) same

pub wildcards_same : (a b : Labels) → SameName (wildcard_of a) (wildcard_of b) → SameName a b
wildcards_same a b same = parents_same asterisk asterisk a b same

pub IsLabel-asterisk : IsLabel asterisk
IsLabel-asterisk = record { not_empty = omega arith; at_most_63 = omega arith; octets = (omega arith, tt) }

pub wildcard_no_longer : (label : List ℕ) (name : Labels) → IsLabel label
    → length (wire (wildcard_of name)) ≤ length (wire (label ∷ name))
wildcard_no_longer label name is_label = omega (arith, length-append label (wire name), is_label.not_empty)

-- where there is room for a label there is for `*`
pub IsName-wildcard : (label : List ℕ) (name : Labels) → IsName (label ∷ name) → IsName (wildcard_of name)
IsName-wildcard label name is_name = record {
  each = (IsLabel-asterisk, is_name.each.1);
  at_most_255 = omega (arith, wildcard_no_longer label name is_name.each.0, is_name.at_most_255);
}

pub IsName-wildcard_of_rightmost : (name : Labels) (n : ℕ) → n < length name → IsName name
    → IsName (wildcard_of (rightmost name n))
IsName-wildcard_of_rightmost name n more is_name =
    let next = rightmost_more name n more in
    IsName-wildcard next.0 (rightmost name n) (rw (next.1) at (IsName-rightmost name (n + 1) is_name))
