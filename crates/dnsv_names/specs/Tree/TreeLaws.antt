-- The laws of the tree of names and of their order, for proofs. All hold without regard to case.
use Rattle.std.proofs.Common.{◌≡◌, ◌<◌, ◌≤◌, ◌⊎◌, Bool, true, false, [], ◌++◌, length, take, drop, map, reverse, refl, sym, ap, ◌∙◌, arith, subst, inl, inr, ⊎_elim}
use Rattle.std.proofs.lemmas.List.{reverse-append, reverse-reverse, length-reverse, length-map, map-append, take-map, take_at}
use Rattle.std.proofs.lemmas.Bool.{cases_lt}
use Rattle.std.specs.Bool.{Decides}
use Rattle.std.specs.declared.cmp.Ordering.TheVariants.{Greater}
use Rattle.std.specs.Cmp.Lexicographic.{slice_cmp}
use Rattle.std.specs.Ordering.{ordering_reverse}
use Rattle.dnsv_names.specs.Name.{Labels, lower_case, SameName, same_name, IsAtOrBelow}
use Rattle.dnsv_names.specs.Order.{label_cmp, from_the_right, canonical_cmp, IsBefore, IsBelow}
use Rattle.dnsv_names.specs.Order.OrderLaws.{same_name_Decides, canonical_cmp_total}
use Rattle.dnsv_names.specs.Tree.Keys.{KeyAtOrBelow, KeyBelow, is_at_or_below}
use Rattle.dnsv_names.specs.Tree.KeyLaws.{append_key, key_rest, key_at_or_below_trans, key_at_or_below_antisymm, key_below_root, key_in_line, key_length, key_longer_below, key_below_length, key_below_at, key_at_or_below_cases, key_before_below, key_behind_all, key_test_Decides}

-- the labels of a name that ends with those of another, from the right
pub from_the_right_below : (name front above : Labels) → SameName name (front ++ above)
    → from_the_right name ≡ from_the_right above ++ from_the_right front
from_the_right_below name front above same =
    ap reverse (same ∙ map-append (λ label. map _ label) front above) ∙ reverse-append (lower_case front) (lower_case above)

-- a name whose labels from the right begin with those of another is at or below it
pub at_or_below_begins : (name above rest : Labels) → from_the_right name ≡ from_the_right above ++ rest
    → IsAtOrBelow name above
at_or_below_begins name above rest begins =
    let split : lower_case name ≡ reverse rest ++ lower_case above =
    sym (reverse-reverse (lower_case name)) ∙ ap reverse begins ∙ reverse-append (from_the_right above) rest
    ∙ ap (λ labels. reverse rest ++ labels) (reverse-reverse (lower_case above)) in
    let front : lower_case (take (length rest) name) ≡ reverse rest =
    sym (take-map _ (length rest) name) ∙ ap (take (length rest)) split ∙ take_at (reverse rest) (lower_case above) (length rest) (length-reverse rest) in (
      take (length rest) name,
      split ∙ ap (λ labels. labels ++ lower_case above) (sym front) ∙ sym (map-append (λ label. map _ label) (take (length rest) name) above),
    )

-- names by their keys
pub key_of_at_or_below : (name above : Labels) → IsAtOrBelow name above
    → KeyAtOrBelow (from_the_right name) (from_the_right above)
key_of_at_or_below name above below =
    subst (λ (key : Labels). KeyAtOrBelow key (from_the_right above)) (sym (from_the_right_below name below.0 above below.1)) (append_key (from_the_right above) (from_the_right below.0))

pub at_or_below_of_key : (name above : Labels) → KeyAtOrBelow (from_the_right name) (from_the_right above)
    → IsAtOrBelow name above
at_or_below_of_key name above below =
    at_or_below_begins name above (drop (length (from_the_right above)) (from_the_right name)) (sym (key_rest below))

pub key_of_same : (a b : Labels) → SameName a b → from_the_right a ≡ from_the_right b
key_of_same a b same = ap reverse same

pub same_of_key : (a b : Labels) → from_the_right a ≡ from_the_right b → SameName a b
same_of_key a b same = sym (reverse-reverse (lower_case a)) ∙ ap reverse same ∙ reverse-reverse (lower_case b)

pub key_labels : (name : Labels) → length (from_the_right name) ≡ length name
key_labels name = length-reverse (lower_case name) ∙ length-map name _

-- equal names
pub same_labels : (a b : Labels) → SameName a b → length a ≡ length b
same_labels a b same = sym (length-map a _) ∙ ap length same ∙ length-map b _

-- at or below
pub at_itself : (name : Labels) → IsAtOrBelow name name
at_itself name = ([], refl)

pub same_at_or_below : (a b : Labels) → SameName a b → IsAtOrBelow a b
same_at_or_below a b same = ([], same)

pub at_or_below_root : (name : Labels) → IsAtOrBelow name []
at_or_below_root name = at_or_below_of_key name [] (key_below_root (from_the_right name))

pub at_or_below_trans : (x y z : Labels) → IsAtOrBelow x y → IsAtOrBelow y z → IsAtOrBelow x z
at_or_below_trans x y z p q =
    at_or_below_of_key x z (key_at_or_below_trans (key_of_at_or_below x y p) (key_of_at_or_below y z q))

pub at_or_below_antisymm : (a b : Labels) → IsAtOrBelow a b → IsAtOrBelow b a → SameName a b
at_or_below_antisymm a b p q =
    same_of_key a b (key_at_or_below_antisymm (key_of_at_or_below a b p) (key_of_at_or_below b a q))

-- equal names are at or below the same, and have the same at or below them
pub at_or_below_respects : (a b c d : Labels) → SameName a b → SameName c d → IsAtOrBelow a c → IsAtOrBelow b d
at_or_below_respects a b c d left right p =
    at_or_below_trans b c d (at_or_below_trans b a c (same_at_or_below b a (sym left)) p) (same_at_or_below c d right)

pub at_or_below_length : (name above : Labels) → IsAtOrBelow name above → length above ≤ length name
at_or_below_length name above below =
    omega (arith, key_labels name, key_labels above, key_length (key_of_at_or_below name above below))

pub ancestors_in_line : (x a b : Labels) → IsAtOrBelow x a → IsAtOrBelow x b → length a ≤ length b → IsAtOrBelow b a
ancestors_in_line x a b p q shorter =
    at_or_below_of_key b a (key_in_line (key_of_at_or_below x a p) (key_of_at_or_below x b q) (omega (arith, key_labels a, key_labels b)))

-- below is at or below with more labels
pub below_length : (name above : Labels) → IsBelow name above → length above < length name
below_length name above below =
    ⊎_elim (λ (same : from_the_right name ≡ from_the_right above). absurd (below.1 (same_of_key name above same)))
    (λ (deeper : KeyBelow (from_the_right name) (from_the_right above)). omega (arith, key_labels name, key_labels above, key_below_length deeper))
    (key_at_or_below_cases (key_of_at_or_below name above below.0))

pub below_by_length : (name above : Labels) → IsAtOrBelow name above → length above < length name → IsBelow name above
below_by_length name above below longer = (below, λ same. omega (arith, same_labels name above same))

-- below, by keys
pub key_of_below : (name above : Labels) → IsBelow name above → KeyBelow (from_the_right name) (from_the_right above)
key_of_below name above below =
    key_longer_below (key_of_at_or_below name above below.0) (omega (arith, key_labels name, key_labels above, below_length name above below))

pub below_of_key : (name above : Labels) → KeyBelow (from_the_right name) (from_the_right above) → IsBelow name above
below_of_key name above below =
    below_by_length name above (at_or_below_of_key name above (key_below_at below)) (omega (arith, key_labels name, key_labels above, key_below_length below))

-- at or below is at, or below
pub at_or_below_cases : (name above : Labels) → IsAtOrBelow name above → SameName name above ⊎ IsBelow name above
at_or_below_cases name above below =
    ⊎_elim (λ (same : from_the_right name ≡ from_the_right above). inl (same_of_key name above same))
    (λ (deeper : KeyBelow (from_the_right name) (from_the_right above)). inr (below_of_key name above deeper))
    (key_at_or_below_cases (key_of_at_or_below name above below))

pub below_trans_at : (x y z : Labels) → IsBelow x y → IsAtOrBelow y z → IsBelow x z
below_trans_at x y z p q =
    below_by_length x z (at_or_below_trans x y z p.0 q) (omega (arith, below_length x y p, at_or_below_length y z q))

pub at_trans_below : (x y z : Labels) → IsAtOrBelow x y → IsBelow y z → IsBelow x z
at_trans_below x y z p q =
    below_by_length x z (at_or_below_trans x y z p q.0) (omega (arith, at_or_below_length x y p, below_length y z q))

-- a name is not above one that is below it
pub below_not_above : (name above : Labels) → IsBelow name above → IsAtOrBelow above name → ⊥
below_not_above name above below back = omega (arith, below_length name above below, at_or_below_length above name back)

pub below_respects : (a b c d : Labels) → SameName a b → SameName c d → IsBelow a c → IsBelow b d
below_respects a b c d left right p =
    (at_or_below_respects a b c d left right p.0, λ same. p.1 (left ∙ same ∙ sym right))

-- of two names above a third, one is above the other
pub either_above : (x a b : Labels) → IsAtOrBelow x a → IsAtOrBelow x b → IsAtOrBelow a b ⊎ IsBelow b a
either_above x a b p q =
    ⊎_elim (λ (shorter : length a < length b). inr (below_by_length b a (ancestors_in_line x a b p q (omega arith)) shorter))
    (λ (longer : length b ≤ length a). inl (ancestors_in_line x b a q p longer)) (cases_lt (length a) (length b))

-- canonical order: equal names stand in one place
pub before_respects : (a b c d : Labels) → SameName a b → SameName c d → IsBefore a c → IsBefore b d
before_respects a b c d left right p =
    ap (λ key. slice_cmp label_cmp key (from_the_right d)) (sym (key_of_same a b left)) ∙ ap (slice_cmp label_cmp (from_the_right a)) (sym (key_of_same c d right)) ∙ p

-- a name comes before every name below it
pub before_below : (name above : Labels) → IsBelow name above → IsBefore above name
before_below name above below = (key_before_below (key_of_below name above below)).less

pub same_or_before : (name above : Labels) → IsAtOrBelow name above → SameName name above ⊎ IsBefore above name
same_or_before name above below =
    ⊎_elim (λ (same : SameName name above). inl same) (λ (deeper : IsBelow name above). inr (before_below name above deeper)) (at_or_below_cases name above below)

-- what comes behind a name, and isn't at or below it, comes behind all that is
pub behind_all : (above x y : Labels) → IsBefore above y → ¬ IsAtOrBelow y above → IsAtOrBelow x above → IsBefore x y
behind_all above x y first outside below =
    (key_behind_all (record { less = first }) (λ key. outside (at_or_below_of_key y above key)) (key_of_at_or_below x above below)).less

never_both : (x y : Labels) → IsBefore x y → IsBefore y x → ⊥
never_both x y p q =
    let back = canonical_cmp_total.antisymm x y in let turned : ordering_reverse (canonical_cmp y x) ≡ Greater = ap ordering_reverse q in cc

-- a test that decides a fact leads to the fact or its opposite
pub decided : {P : Type 0} (test : Bool) → Decides test P → P ⊎ ¬ P
decided true decides = inl (decides.0 refl)
decided false decides = inr (λ p. let yes = decides.1 p in cc)

-- the tests, and what they decide
pub is_at_or_below_Decides : (name above : Labels) → Decides (is_at_or_below name above) (IsAtOrBelow name above)
is_at_or_below_Decides name above =
    let test = key_test_Decides (from_the_right name) (from_the_right above) in
    (λ yes. at_or_below_of_key name above (test.0 yes), λ below. test.1 (key_of_at_or_below name above below))

pub at_or_below_or_not : (name above : Labels) → IsAtOrBelow name above ⊎ ¬ IsAtOrBelow name above
at_or_below_or_not name above = decided (is_at_or_below name above) (is_at_or_below_Decides name above)

pub same_or_not : (a b : Labels) → SameName a b ⊎ ¬ SameName a b
same_or_not a b = decided (same_name a b) (same_name_Decides a b)

pub below_or_not : (name above : Labels) → IsBelow name above ⊎ ¬ IsBelow name above
below_or_not name above =
    ⊎_elim (λ (same : SameName name above). inr (λ below. below.1 same))
    (λ (other : ¬ SameName name above).
    ⊎_elim (λ (under : IsAtOrBelow name above). inl (under, other))
    (λ (apart : ¬ IsAtOrBelow name above). inr (λ below. apart below.0)) (at_or_below_or_not name above))
    (same_or_not name above)

-- no name comes between two that are at or below a third and isn't there too
pub interval : (above x y z : Labels) → IsAtOrBelow x above → IsAtOrBelow z above → IsBefore x y → IsBefore y z
    → IsAtOrBelow y above
interval above x y z x_below z_below x_y y_z =
    ⊎_elim (λ (inside : IsAtOrBelow y above). inside)
    (λ (outside : ¬ IsAtOrBelow y above).
    let first : IsBefore above y =
    ⊎_elim (λ (same : SameName x above). before_respects x above y y same refl x_y)
    (λ (earlier : IsBefore above x). canonical_cmp_total.trans above x y earlier x_y) (same_or_before x above x_below) in
    absurd (never_both z y (behind_all above z y first outside z_below) y_z))
    (at_or_below_or_not y above)
