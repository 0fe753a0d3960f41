-- Names compared from the right: the labels behind two places are the same, and those before them decide.
use Rattle.std.proofs.Common.{◌≡◌, ◌≢◌, ℕ, zero, suc, ◌+◌, ◌-◌, ◌<◌, ◌≤◌, List, [], ◌∷◌, ◌++◌, length, get_or, take, drop, map, Option, Some, None, Bor, refl, sym, ap, ◌∙◌, arith, append_assoc, length-append, length-drop, reverse, ⊎_elim}
use Rattle.std.proofs.lemmas.List.{drop_all, drop_at, drop_more, take-append-drop, take_more, map-append, reverse-append}
use Rattle.std.proofs.lemmas.Bool.{cases_lt}
use Rattle.std.proofs.lemmas.Cmp.{tied_itself, lists_total, nat_list_cmp_total}
use Rattle.std.specs.Char.{to_ascii_lowercase}
use Rattle.std.specs.Option.{IfSome}
use Rattle.std.specs.declared.cmp.Ordering.{Ordering}
use Rattle.std.specs.declared.cmp.Ordering.TheVariants.{Less, Equal, Greater}
use Rattle.std.specs.Ordering.{ordering_then}
use Rattle.std.specs.Cmp.Lexicographic.{slice_cmp}
use Rattle.dnsv_names.specs.Order.ByWireLaws.{same_wire}
use Rattle.dnsv_names.specs.Order.Ends.{EndAlike, LabelBefore, Walked, WalkedTo}
use Rattle.dnsv_names.specs.Name.{Labels, wire, lower_case}
use Rattle.dnsv_names.specs.Order.{label_cmp, from_the_right, canonical_cmp}
use Rattle.dnsv_names.specs.Name.Spelling.{labels_of, SpellsName}
use Rattle.dnsv_names.proofs.EndLemmas.{end_less}
use Rattle.dnsv_names.proofs.LowerLemmas.{untied}
use Rattle.dnsv_names.proofs.NameLemmas.{Stands, Stands-next, place_within, label_octets}
use Rattle.dnsv_names.specs.Name.WireLaws.{wire_not_empty, lower_case-wire}
use Rattle.dnsv_names.specs.Tree.AncestorLaws.{IsName-drop, length_lower_wire}
use Rattle.dnsv_names.specs.Tree.KeyLaws.{label_cmp_exact}

-- no place of the one walk that lies within what is alike has been passed in the other walk
pub record Apart (alike : ℕ) (a_rest b_rest : List ℕ) (a_label b_label : Option (Bor (List ℕ))) : Type 0 where
  pub first : IfSome a_label (λ a. length b_rest < length a.now)
  pub second : IfSome b_label (λ b. (length a_rest ≤ length b.now) × (length a_rest ≡ length b.now → alike < length b.now))
  pub both : IfSome a_label (λ a. IfSome b_label (λ b. length a.now ≡ length b.now → alike < length a.now))

-- walks to what is alike begin so
pub Apart-start : (alike : ℕ) (a b a_rest b_rest : List ℕ) (a_label b_label : Option (Bor (List ℕ))) → WalkedTo a alike a_rest a_label → WalkedTo b alike b_rest b_label → Apart alike a_rest b_rest a_label b_label
Apart-start alike a b a_rest b_rest None None left right = record { first = tt; second = tt; both = tt }
Apart-start alike a b a_rest b_rest None (Some q) left right = record {
  first = tt;
  second = (omega (arith, left.near, right.far), λ same. right.far);
  both = tt;
}
Apart-start alike a b a_rest b_rest (Some p) None left right = record { first = omega (arith, right.near, left.far); second = tt; both = tt }
Apart-start alike a b a_rest b_rest (Some p) (Some q) left right = record {
  first = omega (arith, right.near, left.far);
  second = (omega (arith, left.near, right.far), λ same. right.far);
  both = λ same. left.far;
}

pub beyond_root : (m n : ℕ) → m ≢ n → 0 < m → m ≤ n → 1 < n
beyond_root m n differ some upto = grind (arith, some, upto, differ)

more_left : (labels : Labels) (k : ℕ) → 1 < length (wire (drop k labels)) → k < length labels
more_left labels k long = ⊎_elim (λ (more : k < length labels). more)
    (λ (none : length labels ≤ k). absurd (omega (arith, long, ap (λ ls. length (wire ls)) (drop_all k labels none))))
    (cases_lt k (length labels))

pub some_rest : {octets rest : List ℕ} {label : Option (Bor (List ℕ))} → Walked octets rest label → 0 < length rest
some_rest {octets} walked = omega (arith, ap length walked.form, wire_not_empty (drop walked.k (labels_of octets)))

-- one label more
pub record StepsOn (octets rest next : List ℕ) : Type 0 where
  pub label : (r : Bor (List ℕ)) → r.now ≡ rest → Walked octets next (Some r)
  pub shorter : length next < length rest

-- where a rest is longer than the root, a label stands in front of it
pub label_in_front : {octets rest : List ℕ} {label : Option (Bor (List ℕ))} → Walked octets rest label → 1 < length rest → 1 + get_or rest 0 0 < length rest
label_in_front {octets} {rest} walked long =
    let more : walked.k < length (labels_of octets) = more_left (labels_of octets) walked.k (omega (arith, long, ap length walked.form)) in
    let stands : Stands rest 0 (labels_of octets) walked.k = record { form = walked.form } in
    omega (arith, place_within (Stands-next stands more))

pub steps_on : (octets rest next : List ℕ) (label : Option (Bor (List ℕ))) → Walked octets rest label → 1 < length rest → next ≡ drop (1 + get_or rest 0 0) rest → StepsOn octets rest next
steps_on octets rest next label walked long is =
    let more : walked.k < length (labels_of octets) = more_left (labels_of octets) walked.k (omega (arith, long, ap length walked.form)) in
    let stands : Stands rest 0 (labels_of octets) walked.k = record { form = walked.form } in
    let behind : Stands rest (0 + (1 + get_or rest 0 0)) (labels_of octets) (walked.k + 1) = Stands-next stands more in
    let place : 1 + get_or rest 0 0 ≡ 0 + (1 + get_or rest 0 0) = omega arith in
    let on : walked.k + 1 ≡ suc walked.k = omega arith in
    record {
      label = λ r same. record {
        k = suc walked.k;
        within = omega arith;
        form = is ∙ ap (λ n. drop n rest) place ∙ behind.form ∙ ap (λ n. wire (drop n (labels_of octets))) on;
        before = same ∙ walked.form;
      };
      shorter = omega (arith, ap length is, length-drop (1 + get_or rest 0 0) rest, long);
    }

module _ (alike : ℕ) (a_rest b_rest next : List ℕ) where
  pub Apart-left : (a_label b_label : Option (Bor (List ℕ))) (r : Bor (List ℕ)) → Apart alike a_rest b_rest a_label b_label → r.now ≡ a_rest → length b_rest < length a_rest → length next < length a_rest → Apart alike next b_rest (Some r) b_label
  Apart-left a_label None r apart is longer shorter = record { first = omega (arith, ap length is); second = tt; both = tt }
  Apart-left a_label (Some b) r apart is longer shorter = record {
    first = omega (arith, ap length is);
    second = (omega (arith, apart.second.0), λ same. absurd (omega (arith, apart.second.0)));
    both = λ same. let same_here : length a_rest ≡ length b.now = omega (arith, ap length is, same) in omega (arith, apart.second.1 same_here, same);
  }

  pub Apart-right : (a_label b_label : Option (Bor (List ℕ))) (r : Bor (List ℕ)) → Apart alike a_rest b_rest a_label b_label → r.now ≡ b_rest → length a_rest ≤ length b_rest → (length a_rest ≡ length b_rest → alike < length b_rest) → length next < length b_rest → Apart alike a_rest next a_label (Some r)
  Apart-right None b_label r apart is longer apart_here shorter = record {
    first = tt;
    second = (omega (arith, ap length is), λ same. let same_here : length a_rest ≡ length b_rest = omega (arith, ap length is, same) in omega (arith, ap length is, apart_here same_here));
    both = tt;
  }
  Apart-right (Some a) b_label r apart is longer apart_here shorter = record {
    first = omega (arith, apart.first);
    second = (omega (arith, ap length is), λ same. let same_here : length a_rest ≡ length b_rest = omega (arith, ap length is, same) in omega (arith, ap length is, apart_here same_here));
    both = λ same. absurd (omega (arith, ap length is, apart.first, same));
  }

front_of_wire : (labels : Labels) (k : ℕ) → (front : List ℕ) × (wire labels ≡ front ++ wire (drop k labels))
front_of_wire labels zero = ([], refl)
front_of_wire [] (suc k) = ([], refl)
front_of_wire (label ∷ labels) (suc k) =
    let more = front_of_wire labels k in (
      length label ∷ (label ++ more.0),
      ap (λ xs. length label ∷ (label ++ xs)) more.1 ∙ ap (λ xs. length label ∷ xs) (sym (append_assoc label more.0 (wire (drop k labels)))),
    )

-- rightmost labels stand at the right
end_is : (octets rest : List ℕ) (k : ℕ) → SpellsName octets → rest ≡ wire (drop k (labels_of octets)) → drop (length octets - length rest) octets ≡ rest
end_is octets rest k spells form =
    let front = front_of_wire (labels_of octets) k in
    let whole : octets ≡ front.0 ++ rest = spells.whole ∙ front.1 ∙ ap (λ xs. front.0 ++ xs) (sym form) in
    let size : length front.0 ≡ length octets - length rest = omega (arith, ap length whole, length-append front.0 rest) in
    ap (drop (length octets - length rest)) whole ∙ drop_at front.0 rest (length octets - length rest) size

length_end : (octets rest : List ℕ) (k : ℕ) → SpellsName octets → rest ≡ wire (drop k (labels_of octets)) → length rest ≤ length octets
length_end octets rest k spells form =
    let front = front_of_wire (labels_of octets) k in
    omega (arith, ap length spells.whole, ap length front.1, ap length form, length-append front.0 (wire (drop k (labels_of octets))))

lower_end : (octets rest : List ℕ) (k : ℕ) → SpellsName octets → rest ≡ wire (drop k (labels_of octets)) → map to_ascii_lowercase (drop (length octets - length rest) octets) ≡ wire (lower_case (drop k (labels_of octets)))
lower_end octets rest k spells form =
    ap (map to_ascii_lowercase) (end_is octets rest k spells form ∙ form) ∙ lower_case-wire (drop k (labels_of octets)) (IsName-drop k (labels_of octets) spells.name).each

module _ (a b : List ℕ) (a_spells : SpellsName a) (b_spells : SpellsName b) (a_rest b_rest : List ℕ) (j k : ℕ) (a_form : a_rest ≡ wire (drop j (labels_of a))) (b_form : b_rest ≡ wire (drop k (labels_of b))) (size : length a_rest ≡ length b_rest) where
  -- rests of one length that lie within what is alike are the same labels
  pub alike_tails : EndAlike a b (length a_rest) → lower_case (drop j (labels_of a)) ≡ lower_case (drop k (labels_of b))
  alike_tails alike =
      same_wire _ _ (sym (lower_end a a_rest j a_spells a_form) ∙ alike.2
      ∙ ap (λ n. map to_ascii_lowercase (drop (length b - n) b)) size ∙ lower_end b b_rest k b_spells b_form)

  -- and the other way round
  pub tails_alike : lower_case (drop j (labels_of a)) ≡ lower_case (drop k (labels_of b)) → EndAlike a b (length a_rest)
  tails_alike same = (
    length_end a a_rest j a_spells a_form,
    omega (arith, size, length_end b b_rest k b_spells b_form),
    lower_end a a_rest j a_spells a_form ∙ ap wire same ∙ sym (lower_end b b_rest k b_spells b_form)
        ∙ ap (λ n. map to_ascii_lowercase (drop (length b - n) b)) (sym size),
  )

from_place : (labels : Labels) (k : ℕ) → from_the_right labels ≡ reverse (lower_case (drop k labels)) ++ reverse (lower_case (take k labels))
from_place labels k =
    ap from_the_right (sym (take-append-drop k labels))
    ∙ ap reverse (map-append (λ label. map to_ascii_lowercase label) (take k labels) (drop k labels))
    ∙ reverse-append (lower_case (take k labels)) (lower_case (drop k labels))

last_first : (labels : Labels) (k : ℕ) → k < length labels → reverse (lower_case (take (suc k) labels)) ≡ map to_ascii_lowercase (get_or labels k []) ∷ reverse (lower_case (take k labels))
last_first labels k more =
    let on : suc k ≡ k + 1 = omega arith in
    ap (λ n. reverse (lower_case (take n labels))) on ∙ ap (λ ls. reverse (lower_case ls)) (take_more labels k [] more)
    ∙ ap reverse (map-append (λ label. map to_ascii_lowercase label) (take k labels) (get_or labels k [] ∷ []))
    ∙ reverse-append (lower_case (take k labels)) (map to_ascii_lowercase (get_or labels k []) ∷ [])

pub then_assoc : (o p q : Ordering) → ordering_then (ordering_then o p) q ≡ ordering_then o (ordering_then p q)
then_assoc Less p q = refl
then_assoc o p q = refl

-- of two lists cut at one place, what stands in front decides first
cmp_append : (p q s t : Labels) → length p ≡ length q → slice_cmp label_cmp (p ++ s) (q ++ t) ≡ ordering_then (slice_cmp label_cmp p q) (slice_cmp label_cmp s t)
cmp_append [] [] s t same = refl
cmp_append [] (y ∷ q) s t same = absurd (omega arith)
cmp_append (x ∷ p) [] s t same = absurd (omega arith)
cmp_append (x ∷ p) (y ∷ q) s t same =
    ap (ordering_then (label_cmp x y)) (cmp_append p q s t (omega arith)) ∙ sym (then_assoc (label_cmp x y) (slice_cmp label_cmp p q) (slice_cmp label_cmp s t))

-- behind the same labels, those before them decide
decided_in_front : (x y : Labels) (j k : ℕ) → lower_case (drop j x) ≡ lower_case (drop k y) → canonical_cmp x y ≡ slice_cmp label_cmp (reverse (lower_case (take j x))) (reverse (lower_case (take k y)))
decided_in_front x y j k same =
    let p = reverse (lower_case (drop j x)) in
    let s = reverse (lower_case (take j x)) in
    let t = reverse (lower_case (take k y)) in
    ap (λ key. slice_cmp label_cmp key (from_the_right y)) (from_place x j)
    ∙ ap (slice_cmp label_cmp (p ++ s)) (from_place y k ∙ ap (λ q. reverse q ++ t) (sym same))
    ∙ cmp_append p p s t refl ∙ ap (λ o. ordering_then o (slice_cmp label_cmp s t)) (tied_itself (lists_total nat_list_cmp_total) p)

-- the octets of the label in front
front_label : (octets : List ℕ) (labels : Labels) (k : ℕ) → k < length labels → octets ≡ wire (drop k labels) → take (get_or octets 0 0) (drop 1 octets) ≡ get_or labels k []
front_label octets labels k more form =
    let stands : Stands octets 0 labels k = record { form = form } in
    label_octets stands (get_or octets 0 0) more refl

-- a label that was passed stands in front of what is kept of it
pub label_there : (octets rest : List ℕ) (r : Bor (List ℕ)) → Walked octets rest (Some r) → get_or r.now 0 0 < length r.now
label_there octets rest r walked = at walked.k walked.within walked.before
  where
    at : (k : ℕ) → k ≤ length (labels_of octets) → LabelBefore (labels_of octets) k (Some r) → get_or r.now 0 0 < length r.now
    at zero within before = absurd before
    at (suc k) within before =
        let stands : Stands r.now 0 (labels_of octets) k = record { form = before } in
        let behind : Stands r.now (0 + (1 + get_or r.now 0 0)) (labels_of octets) (k + 1) = Stands-next stands (omega arith) in
        omega (arith, place_within behind)

module _ (a b : List ℕ) (a_spells : SpellsName a) (b_spells : SpellsName b) (alike : ℕ) (upto : EndAlike a b alike) (most : (n : ℕ) → EndAlike a b n → n ≤ alike) where
  module _ (a_rest b_rest : List ℕ) (size : length a_rest ≡ length b_rest) (within : length a_rest ≤ alike) where
    in_front : (j k : ℕ) → a_rest ≡ wire (drop j (labels_of a)) → b_rest ≡ wire (drop k (labels_of b)) → canonical_cmp (labels_of a) (labels_of b) ≡ slice_cmp label_cmp (reverse (lower_case (take j (labels_of a)))) (reverse (lower_case (take k (labels_of b))))
    in_front j k a_form b_form =
        decided_in_front (labels_of a) (labels_of b) j k
        (alike_tails a b a_spells b_spells a_rest b_rest j k a_form b_form size (end_less a b (length a_rest) alike upto within))

    pub ended_together : Walked a a_rest None → Walked b b_rest None → Equal ≡ canonical_cmp (labels_of a) (labels_of b)
    ended_together left right = both left.k right.k left.form right.form left.before right.before
      where
        both : (j k : ℕ) → a_rest ≡ wire (drop j (labels_of a)) → b_rest ≡ wire (drop k (labels_of b)) → LabelBefore (labels_of a) j None → LabelBefore (labels_of b) k None → Equal ≡ canonical_cmp (labels_of a) (labels_of b)
        both zero zero a_form b_form x y = sym (in_front 0 0 a_form b_form)
        both zero (suc k) a_form b_form x y = absurd y
        both (suc j) k a_form b_form x y = absurd x

    pub ended_first : (r : Bor (List ℕ)) → Walked a a_rest None → Walked b b_rest (Some r) → Less ≡ canonical_cmp (labels_of a) (labels_of b)
    ended_first r left right = both left.k right.k left.form right.form left.before right.before right.within
      where
        both : (j k : ℕ) → a_rest ≡ wire (drop j (labels_of a)) → b_rest ≡ wire (drop k (labels_of b)) → LabelBefore (labels_of a) j None → LabelBefore (labels_of b) k (Some r) → k ≤ length (labels_of b) → Less ≡ canonical_cmp (labels_of a) (labels_of b)
        both zero zero a_form b_form x y is_in = absurd y
        both zero (suc k) a_form b_form x y is_in =
            sym (in_front 0 (suc k) a_form b_form ∙ ap (slice_cmp label_cmp []) (last_first (labels_of b) k (omega arith)))
        both (suc j) k a_form b_form x y is_in = absurd x

    pub ended_last : (r : Bor (List ℕ)) → Walked a a_rest (Some r) → Walked b b_rest None → Greater ≡ canonical_cmp (labels_of a) (labels_of b)
    ended_last r left right = both left.k right.k left.form right.form left.before right.before left.within
      where
        both : (j k : ℕ) → a_rest ≡ wire (drop j (labels_of a)) → b_rest ≡ wire (drop k (labels_of b)) → LabelBefore (labels_of a) j (Some r) → LabelBefore (labels_of b) k None → j ≤ length (labels_of a) → Greater ≡ canonical_cmp (labels_of a) (labels_of b)
        both zero k a_form b_form x y is_in = absurd x
        both (suc j) zero a_form b_form x y is_in =
            sym (in_front (suc j) 0 a_form b_form ∙ ap (λ key. slice_cmp label_cmp key []) (last_first (labels_of a) j (omega arith)))
        both (suc j) (suc k) a_form b_form x y is_in = absurd y

    module _ (r s : Bor (List ℕ)) (apart : Apart alike a_rest b_rest (Some r) (Some s)) (j k : ℕ) (in_a : j < length (labels_of a)) (in_b : k < length (labels_of b)) (a_form : a_rest ≡ wire (drop (suc j) (labels_of a))) (b_form : b_rest ≡ wire (drop (suc k) (labels_of b))) (a_before : r.now ≡ wire (drop j (labels_of a))) (b_before : s.now ≡ wire (drop k (labels_of b))) where
      abbrev x : List ℕ
      x = get_or (labels_of a) j []

      abbrev y : List ℕ
      y = get_or (labels_of b) k []

      with_label : (labels : Labels) (i : ℕ) → i < length labels → lower_case (drop i labels) ≡ map to_ascii_lowercase (get_or labels i []) ∷ lower_case (drop (suc i) labels)
      with_label labels i more =
          let on : i + 1 ≡ suc i = omega arith in
          ap lower_case (drop_more labels i [] more) ∙ ap (λ n. map to_ascii_lowercase (get_or labels i []) ∷ lower_case (drop n labels)) on

      tails : lower_case (drop (suc j) (labels_of a)) ≡ lower_case (drop (suc k) (labels_of b))
      tails = alike_tails a b a_spells b_spells a_rest b_rest (suc j) (suc k) a_form b_form size (end_less a b (length a_rest) alike upto within)

      differ : label_cmp (map to_ascii_lowercase x) (map to_ascii_lowercase y) ≢ Equal
      differ tied =
          let same : lower_case (drop j (labels_of a)) ≡ lower_case (drop k (labels_of b)) =
          with_label (labels_of a) j in_a ∙ (λ i. label_cmp_exact (map to_ascii_lowercase x) (map to_ascii_lowercase y) tied i ∷ tails i) ∙ sym (with_label (labels_of b) k in_b) in
          let long : length r.now ≡ length s.now =
          ap length a_before ∙ sym (length_lower_wire (drop j (labels_of a))) ∙ ap (λ ls. length (wire ls)) same ∙ length_lower_wire (drop k (labels_of b)) ∙ ap length (sym b_before) in
          let reach : length r.now ≤ alike = most (length r.now) (tails_alike a b a_spells b_spells r.now s.now j k a_before b_before long same) in
          omega (arith, reach, apart.both long)

      decided_here : label_cmp (map to_ascii_lowercase (take (get_or r.now 0 0) (drop 1 r.now))) (map to_ascii_lowercase (take (get_or s.now 0 0) (drop 1 s.now))) ≡ canonical_cmp (labels_of a) (labels_of b)
      decided_here =
          (λ i. label_cmp (map to_ascii_lowercase (front_label r.now (labels_of a) j in_a a_before i)) (map to_ascii_lowercase (front_label s.now (labels_of b) k in_b b_before i)))
          ∙ sym (untied _ (slice_cmp label_cmp (reverse (lower_case (take j (labels_of a)))) (reverse (lower_case (take k (labels_of b))))) differ)
          ∙ (λ i. slice_cmp label_cmp (sym (last_first (labels_of a) j in_a) i) (sym (last_first (labels_of b) k in_b) i))
          ∙ sym (in_front (suc j) (suc k) a_form b_form)

    pub ended_apart : (r s : Bor (List ℕ)) → Apart alike a_rest b_rest (Some r) (Some s) → Walked a a_rest (Some r) → Walked b b_rest (Some s) → label_cmp (map to_ascii_lowercase (take (get_or r.now 0 0) (drop 1 r.now))) (map to_ascii_lowercase (take (get_or s.now 0 0) (drop 1 s.now))) ≡ canonical_cmp (labels_of a) (labels_of b)
    ended_apart r s apart left right = both left.k right.k left.within right.within left.form right.form left.before right.before
      where
        both : (j k : ℕ) → j ≤ length (labels_of a) → k ≤ length (labels_of b) → a_rest ≡ wire (drop j (labels_of a)) → b_rest ≡ wire (drop k (labels_of b)) → LabelBefore (labels_of a) j (Some r) → LabelBefore (labels_of b) k (Some s) → label_cmp (map to_ascii_lowercase (take (get_or r.now 0 0) (drop 1 r.now))) (map to_ascii_lowercase (take (get_or s.now 0 0) (drop 1 s.now))) ≡ canonical_cmp (labels_of a) (labels_of b)
        both zero k in_a in_b a_form b_form p q = absurd p
        both (suc j) zero in_a in_b a_form b_form p q = absurd q
        both (suc j) (suc k) in_a in_b a_form b_form p q = decided_here r s apart j k (omega arith) (omega arith) a_form b_form p q

-- the root's octet is the same in all names
pub root_alike : (a b : List ℕ) → SpellsName a → SpellsName b → EndAlike a b 1
root_alike a b a_spells b_spells =
    let root : (octets : List ℕ) → SpellsName octets → wire [] ≡ wire (drop (length (labels_of octets)) (labels_of octets)) =
    λ octets spells. ap wire (sym (drop_all (length (labels_of octets)) (labels_of octets) (omega arith))) in
    let none : (octets : List ℕ) → lower_case (drop (length (labels_of octets)) (labels_of octets)) ≡ [] =
    λ octets. ap lower_case (drop_all (length (labels_of octets)) (labels_of octets) (omega arith)) in
    tails_alike a b a_spells b_spells (wire []) (wire []) (length (labels_of a)) (length (labels_of b)) (root a a_spells) (root b b_spells) refl
    (none a ∙ sym (none b))
