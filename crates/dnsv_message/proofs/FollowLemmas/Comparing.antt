-- Names compared where they stand, label by label.
use Rattle.std.proofs.Common.{◌≡◌, ℕ, ◌+◌, ◌-◌, ◌<◌, ◌≤◌, List, [], ◌∷◌, ◌++◌, length, get_or, drop, map, min, refl, sym, ap, ◌∙◌, arith, length-drop, ⊎_elim, ◌≢◌, nat_eq, Bor}
use Rattle.std.proofs.lemmas.Bool.{cases_lt}
use Rattle.std.proofs.lemmas.Bool.Decides.{nat_tests}
use Rattle.std.proofs.lemmas.List.{length-map, get_or-map, get_or-reverse, drop_more, length-reverse}
use Rattle.std.proofs.lemmas.Cmp.{nat_cmp_total, tied_itself}
use Rattle.std.specs.Bool.{Decides}
use Rattle.std.specs.Char.{to_ascii_lowercase}
use Rattle.std.specs.Cmp.Lexicographic.{slice_cmp, texts_ties, bytes_decides, pointwise}
use Rattle.std.specs.Ordering.{is_eq, ordering_then, nat_cmp}
use Rattle.std.specs.declared.cmp.Ordering.{Ordering}
use Rattle.std.specs.declared.cmp.Ordering.TheVariants.{Equal}
use Rattle.dnsv_names.specs.Name.{Labels, wire, lower_case, SameName}
use Rattle.dnsv_names.specs.Octets.{octets_cmp}
use Rattle.dnsv_names.specs.Order.{label_cmp, from_the_right}
use Rattle.dnsv_names.specs.Order.ByWireLaws.{same_wire}
use Rattle.dnsv_names.proofs.LowerLemmas.{untied}
use Rattle.dnsv_names.proofs.CompareLemmas.{then_assoc}
use Rattle.dnsv_message.specs.Following.{labels_at, StandsAt, label_at}
use Rattle.dnsv_message.proofs.FollowLemmas.{has_root, has_label}

-- the octets that a name in lower case is compared by
abbrev pub lower_wire : Labels → List ℕ
lower_wire labels = wire (lower_case labels)

-- of two lists cut at one place, what stands in front decides first
pub cmp_cut : (p q s t : List ℕ) → length p ≡ length q → octets_cmp (p ++ s) (q ++ t) ≡ ordering_then (octets_cmp p q) (octets_cmp s t)
cmp_cut [] [] s t same = refl
cmp_cut [] (y ∷ q) s t same = absurd (omega (arith, same))
cmp_cut (x ∷ p) [] s t same = absurd (omega (arith, same))
cmp_cut (x ∷ p) (y ∷ q) s t same =
    ap (ordering_then (nat_cmp x y)) (cmp_cut p q s t (omega (arith, same))) ∙ sym (then_assoc (nat_cmp x y) (octets_cmp p q) (octets_cmp s t))

-- labels of one length that stand in front decide first
pub label_decides : (f g : List ℕ) (a b : Labels) → length f ≡ length g
    → octets_cmp (lower_wire (f ∷ a)) (lower_wire (g ∷ b)) ≡ ordering_then (octets_cmp (map to_ascii_lowercase f) (map to_ascii_lowercase g)) (octets_cmp (lower_wire a) (lower_wire b))
label_decides f g a b same =
    let sizes : length (map to_ascii_lowercase f) ≡ length (map to_ascii_lowercase g) = length-map f to_ascii_lowercase ∙ same ∙ sym (length-map g to_ascii_lowercase) in
    ap (λ n. ordering_then (nat_cmp (length (map to_ascii_lowercase f)) n) (octets_cmp (map to_ascii_lowercase f ++ lower_wire a) (map to_ascii_lowercase g ++ lower_wire b))) (sym sizes)
    ∙ ap (λ o. ordering_then o (octets_cmp (map to_ascii_lowercase f ++ lower_wire a) (map to_ascii_lowercase g ++ lower_wire b))) (tied_itself nat_cmp_total (length (map to_ascii_lowercase f)))
    ∙ cmp_cut (map to_ascii_lowercase f) (map to_ascii_lowercase g) (lower_wire a) (lower_wire b) sizes

-- the first octet of a wire form, behind which the root has nothing
pub record Begins (octets : List ℕ) (place : ℕ) : Type 0 where
  pub rest : List ℕ
  pub form : lower_wire (labels_at octets place) ≡ get_or octets place 0 ∷ rest
  pub root : get_or octets place 0 ≡ 0 → rest ≡ []

pub begins : (octets : List ℕ) (place : ℕ) → StandsAt octets place → Begins octets place
begins octets place stands = ⊎_elim
    (λ (some : 0 < get_or octets place 0).
    let has = has_label octets place stands.named some stands.plain in
    let size : length (map to_ascii_lowercase (label_at octets place)) ≡ get_or octets place 0 = length-map (label_at octets place) to_ascii_lowercase ∙ has.size in
    let rest = map to_ascii_lowercase (label_at octets place) ++ lower_wire (labels_at octets (place + (1 + get_or octets place 0))) in
    record { rest = rest; form = ap lower_wire has.labels ∙ ap (λ n. n ∷ rest) size; root = λ none. absurd (omega (arith, some, none)) })
    (λ (none : get_or octets place 0 ≤ 0).
    let octet : get_or octets place 0 ≡ 0 = omega (arith, none) in
    record { rest = []; form = ap lower_wire (has_root octets place stands.named octet).none ∙ ap (λ n. n ∷ []) (sym octet); root = λ same. refl })
    (cases_lt 0 (get_or octets place 0))

tied : (m n : ℕ) → nat_cmp m n ≡ Equal → m ≡ n
tied m n same = grind (arith, nat_tests, same)

decided : (o : Ordering) (m n : ℕ) (r s : List ℕ) → nat_cmp m n ≡ o → (m ≡ n → (r ≡ []) × (s ≡ [])) → ordering_then o (octets_cmp r s) ≡ o
decided Equal m n r s is none =
    let both = none (tied m n is) in
    λ i. octets_cmp (both.0 i) (both.1 i)
decided o m n r s is none = refl

-- where the octets differ, or both are roots, they decide
pub octets_decide : (a b : List ℕ) (j k : ℕ) (order : Ordering) → StandsAt a j → StandsAt b k → (get_or a j 0 ≡ get_or b k 0 → get_or a j 0 ≡ 0)
    → order ≡ nat_cmp (get_or a j 0) (get_or b k 0) → order ≡ octets_cmp (lower_wire (labels_at a j)) (lower_wire (labels_at b k))
octets_decide a b j k order first second roots is =
    let x = begins a j first in
    let y = begins b k second in
    is ∙ sym (decided (nat_cmp (get_or a j 0) (get_or b k 0)) (get_or a j 0) (get_or b k 0) x.rest y.rest refl (λ same. (x.root (roots same), y.root (sym same ∙ roots same))))
    ∙ sym (λ i. octets_cmp (x.form i) (y.form i))

-- what the labels at two places decide, behind which the walks go on
module _ (a b : List ℕ) (j k : ℕ) (first : StandsAt a j) (second : StandsAt b k) (some : 0 < get_or a j 0) (same : get_or a j 0 ≡ get_or b k 0)
    (order : Ordering) (is : order ≡ octets_cmp (map to_ascii_lowercase (label_at a j)) (map to_ascii_lowercase (label_at b k))) (whole : Ordering)
    (so_far : whole ≡ octets_cmp (lower_wire (labels_at a j)) (lower_wire (labels_at b k))) where
  labels_decide : (x y : Labels) → labels_at a j ≡ label_at a j ∷ x → labels_at b k ≡ label_at b k ∷ y → whole ≡ ordering_then order (octets_cmp (lower_wire x) (lower_wire y))
  labels_decide x y left right =
      let one = has_label a j first.named some first.plain in
      let two = has_label b k second.named (omega (arith, some, same)) second.plain in
      so_far ∙ (λ i. octets_cmp (lower_wire (left i)) (lower_wire (right i)))
      ∙ label_decides (label_at a j) (label_at b k) x y (one.size ∙ same ∙ sym two.size)
      ∙ ap (λ o. ordering_then o (octets_cmp (lower_wire x) (lower_wire y))) (sym is)

  pub tied_labels : (x y : Labels) → labels_at a j ≡ label_at a j ∷ x → labels_at b k ≡ label_at b k ∷ y → order ≡ Equal → whole ≡ octets_cmp (lower_wire x) (lower_wire y)
  tied_labels x y left right equal = labels_decide x y left right ∙ ap (λ o. ordering_then o (octets_cmp (lower_wire x) (lower_wire y))) equal

  pub untied_labels : order ≢ Equal → order ≡ whole
  untied_labels other =
      let one = has_label a j first.named some first.plain in
      let two = has_label b k second.named (omega (arith, some, same)) second.plain in
      sym (labels_decide _ _ one.labels two.labels ∙ untied order _ other)

-- equal octets are equal names
pub wire_ties : (a b : Labels) → Decides (is_eq (octets_cmp (lower_wire a) (lower_wire b))) (SameName a b)
wire_ties a b =
    let ties : pointwise nat_eq (lower_wire a) (lower_wire b) ≡ is_eq (octets_cmp (lower_wire a) (lower_wire b)) = texts_ties (lower_wire a) (lower_wire b) in
    let decides : Decides (pointwise nat_eq (lower_wire a) (lower_wire b)) (lower_wire a ≡ lower_wire b) = bytes_decides (lower_wire a) (lower_wire b) in
    (λ yes. same_wire (lower_case a) (lower_case b) (decides.0 (ties ∙ yes)), λ same. sym ties ∙ decides.1 (ap wire same))

-- labels compared from the right, of which so many are the same
abbrev pub octets_of : List (Bor (List ℕ)) → Labels
octets_of labels = map (λ l. l.now) labels

from_here : (labels : Labels) (i : ℕ) → i < length labels → drop i (from_the_right labels) ≡ map to_ascii_lowercase (get_or labels (length labels - 1 - i) []) ∷ drop (i + 1) (from_the_right labels)
from_here labels i within =
    let size : length (lower_case labels) ≡ length labels = length-map labels (λ l. map to_ascii_lowercase l) in
    let whole : length (from_the_right labels) ≡ length labels = length-reverse (lower_case labels) ∙ size in
    drop_more (from_the_right labels) i [] (omega (arith, whole, within))
    ∙ ap (λ l. l ∷ drop (i + 1) (from_the_right labels)) (get_or-reverse (lower_case labels) i [] (omega (arith, size, within))
    ∙ ap (λ n. get_or (lower_case labels) (n - 1 - i) []) size
    ∙ get_or-map (λ l. map to_ascii_lowercase l) labels (length labels - 1 - i) [] [] (omega (arith, within)))

label_of : (labels : List (Bor (List ℕ))) (d : Bor (List ℕ)) (i : ℕ) → i < length labels
    → get_or (octets_of labels) (length (octets_of labels) - 1 - i) [] ≡ (get_or labels (length labels - 1 - i) d).now
label_of labels d i within =
    let size : length (octets_of labels) ≡ length labels = length-map labels (λ l. l.now) in
    ap (λ n. get_or (octets_of labels) (n - 1 - i) []) size
    ∙ get_or-map (λ l. l.now) labels (length labels - 1 - i) d [] (omega (arith, within))

-- what the labels behind so many from the right decide
abbrev pub left_of : List (Bor (List ℕ)) → List (Bor (List ℕ)) → ℕ → Ordering
left_of a b i = slice_cmp label_cmp (drop i (from_the_right (octets_of a))) (drop i (from_the_right (octets_of b)))

module _ (a b : List (Bor (List ℕ))) (i : ℕ) (in_a : i < length a) (in_b : i < length b) (whole : Ordering) (so_far : whole ≡ left_of a b i) (order : Ordering) (d e : Bor (List ℕ))
    (is : order ≡ octets_cmp (map to_ascii_lowercase (get_or a (length a - 1 - i) d).now) (map to_ascii_lowercase (get_or b (length b - 1 - i) e).now)) where
  last_decides : whole ≡ ordering_then order (left_of a b (i + 1))
  last_decides =
      let left = from_here (octets_of a) i (omega (arith, in_a, length-map a (λ l. l.now))) ∙ ap (λ l. map to_ascii_lowercase l ∷ drop (i + 1) (from_the_right (octets_of a))) (label_of a d i in_a) in
      let right = from_here (octets_of b) i (omega (arith, in_b, length-map b (λ l. l.now))) ∙ ap (λ l. map to_ascii_lowercase l ∷ drop (i + 1) (from_the_right (octets_of b))) (label_of b e i in_b) in
      so_far ∙ (λ j. slice_cmp label_cmp (left j) (right j)) ∙ ap (λ o. ordering_then o (left_of a b (i + 1))) (sym is)

  pub tied_last : order ≡ Equal → whole ≡ left_of a b (i + 1)
  tied_last equal = last_decides ∙ ap (λ o. ordering_then o (left_of a b (i + 1))) equal

  pub untied_last : order ≢ Equal → order ≡ whole
  untied_last other = sym (last_decides ∙ untied order _ other)

lengths_decide : (s t : Labels) (m n : ℕ) → length s ≡ m - min m n → length t ≡ n - min m n → slice_cmp label_cmp s t ≡ nat_cmp m n
lengths_decide [] [] m n left right = grind (arith, nat_tests)
lengths_decide [] (y ∷ t) m n left right = grind (arith, nat_tests)
lengths_decide (x ∷ s) [] m n left right = grind (arith, nat_tests)
lengths_decide (x ∷ s) (y ∷ t) m n left right = absurd (omega (arith, left, right))

-- where the labels of one have all been passed, the numbers of labels decide
pub ended_labels : (a b : List (Bor (List ℕ))) (i : ℕ) → i ≡ min (length a) (length b)
    → slice_cmp label_cmp (drop i (from_the_right (octets_of a))) (drop i (from_the_right (octets_of b))) ≡ nat_cmp (length a) (length b)
ended_labels a b i is = lengths_decide (drop i (from_the_right (octets_of a))) (drop i (from_the_right (octets_of b))) (length a) (length b) (omega (arith, left_behind a, is)) (omega (arith, left_behind b, is))
  where
    left_behind : (labels : List (Bor (List ℕ))) → length (drop i (from_the_right (octets_of labels))) ≡ length labels - i
    left_behind labels =
        omega (arith, length-drop i (from_the_right (octets_of labels)), length-reverse (lower_case (octets_of labels)), length-map (octets_of labels) (λ l. map to_ascii_lowercase l), length-map labels (λ l. l.now))
