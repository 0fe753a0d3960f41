-- The wire form that grows while the labels of a text are read.
use Rattle.std.proofs.Common.{◌≡◌, ◌≢◌, ℕ, ◌+◌, ◌<◌, ◌≤◌, List, [], ◌∷◌, ◌++◌, length, refl, sym, ap, ◌∙◌, arith, append_assoc, length-append, inr, subst, true, false, ◌==◌}
use Rattle.std.proofs.lemmas.Bool.Decides.{nat_tests}
use Rattle.std.proofs.lemmas.List.{append-nil}
use Rattle.std.specs.List.{AllByRecursion}
use Rattle.dnsv_names.specs.Name.{Labels, IsLabel, IsName, wire}
use Rattle.dnsv_names.specs.Text.Reading.{BeginsLabel, LabelFault}
use Rattle.dnsv_names.specs.Name.Spelling.{labels_of, SpellsName}
use Rattle.dnsv_names.specs.Text.{SpellsLabel, SpellsLabels, IsTextOf, FirstFault}
use Rattle.dnsv_names.specs.declared.error.NameError.{NameError}
use Rattle.dnsv_names.specs.declared.error.NameError.TheVariants.{LongName, NotAbsolute}
use Rattle.dnsv_names.specs.Name.WireLaws.{labels_of-wire}
use Rattle.dnsv_names.proofs.NameLemmas.{SpellsName-wire}

-- the wire form of labels without the root
abbrev pub unrooted : Labels → List ℕ
unrooted [] = []
unrooted (label ∷ labels) = length label ∷ (label ++ unrooted labels)

unrooted-append : (a b : Labels) → unrooted (a ++ b) ≡ unrooted a ++ unrooted b
unrooted-append [] b = refl
unrooted-append (label ∷ a) b = ap (λ octets. length label ∷ (label ++ octets)) (unrooted-append a b) ∙ ap (λ octets. length label ∷ octets) (sym (append_assoc label (unrooted a) (unrooted b)))

wire-unrooted : (labels : Labels) → wire labels ≡ unrooted labels ++ 0 ∷ []
wire-unrooted [] = refl
wire-unrooted (label ∷ labels) = ap (λ octets. length label ∷ (label ++ octets)) (wire-unrooted labels) ∙ ap (λ octets. length label ∷ octets) (sym (append_assoc label (unrooted labels) (0 ∷ [])))

-- the text so far spells the labels, whose wire form the octets are, and the rest stands behind them
pub record LabelsSoFar (text octets rest : List ℕ) : Type 0 where
  pub whole : Labels
  pub front : List ℕ
  pub name : IsName whole
  pub form : text ≡ front ++ rest
  pub spells : SpellsLabels front whole
  pub octets_of : octets ≡ unrooted whole

SpellsLabels-push : (labels : Labels) (front piece label : List ℕ) → SpellsLabels front labels → SpellsLabel piece label → SpellsLabels (front ++ piece ++ 46 ∷ []) (labels ++ label ∷ [])
SpellsLabels-push [] front piece label spells more =
    (piece, [], ap (λ text. text ++ piece ++ 46 ∷ []) spells, more, refl)
SpellsLabels-push (first ∷ labels) front piece label spells more = (
  spells.0,
  spells.1 ++ piece ++ 46 ∷ [],
  append_assoc front piece (46 ∷ []) ∙ ap (λ text. text ++ (piece ++ 46 ∷ [])) spells.2 ∙ append_assoc spells.0 (46 ∷ spells.1) (piece ++ 46 ∷ [])
      ∙ ap (λ text. spells.0 ++ 46 ∷ text) (sym (append_assoc spells.1 piece (46 ∷ []))),
  spells.3,
  SpellsLabels-push labels spells.1 piece label spells.4 more,
)

each_push : (labels : Labels) (label : List ℕ) → AllByRecursion IsLabel labels → IsLabel label → AllByRecursion IsLabel (labels ++ label ∷ [])
each_push [] label each more = (more, tt)
each_push (first ∷ labels) label each more = (each.0, each_push labels label each.1 more)

length_push : (labels : Labels) (label : List ℕ) → length (wire (labels ++ label ∷ [])) ≡ length (unrooted labels) + 1 + length label + 1
length_push labels label =
    let whole : wire (labels ++ label ∷ []) ≡ unrooted labels ++ (length label ∷ (label ++ [])) ++ 0 ∷ [] =
    wire-unrooted (labels ++ label ∷ []) ∙ ap (λ octets. octets ++ 0 ∷ []) (unrooted-append labels (label ∷ [])) in
    ap length whole ∙ simp (length-append, append-nil) (omega arith)

-- one label more
pub LabelsSoFar-next : (text octets rest label behind : List ℕ) → LabelsSoFar text octets rest → IsLabel label → BeginsLabel rest label behind → length octets + 1 + length label + 1 ≤ 255 → LabelsSoFar text (octets ++ length label ∷ [] ++ label) behind
LabelsSoFar-next text octets rest label behind so_far is_label begins fits =
    let front = so_far.front in
    let piece = begins.0 in
    let small : length (wire (so_far.whole ++ label ∷ [])) ≤ 255 = omega (arith, length_push so_far.whole label, ap length so_far.octets_of) in
    record {
      whole = so_far.whole ++ label ∷ [];
      front = front ++ piece ++ 46 ∷ [];
      name = record { each = each_push so_far.whole label so_far.name.each is_label; at_most_255 = small };
      form = so_far.form ∙ ap (λ text. front ++ text) begins.1 ∙ sym (append_assoc front piece (46 ∷ behind)) ∙ sym (append_assoc (front ++ piece) (46 ∷ []) behind);
      spells = SpellsLabels-push so_far.whole front piece label so_far.spells begins.2;
      octets_of = append_assoc octets (length label ∷ []) label ∙ ap (λ before. before ++ length label ∷ label) so_far.octets_of
          ∙ ap (λ label'. unrooted so_far.whole ++ length label ∷ label') (sym (append-nil label)) ∙ sym (unrooted-append so_far.whole (label ∷ []));
    }

-- one label too many
pub long_name : (text octets rest label behind : List ℕ) → LabelsSoFar text octets rest → text ≢ 46 ∷ [] → IsLabel label → BeginsLabel rest label behind → 255 < length octets + 1 + length label + 1 → FirstFault text LongName
long_name text octets rest label behind so_far not_root is_label begins long = record {
  not_root = not_root;
  front = so_far.front ++ begins.0;
  rest = 46 ∷ behind;
  whole = so_far.whole;
  begun = label;
  form = so_far.form ∙ ap (λ text. so_far.front ++ text) begins.1 ∙ sym (append_assoc so_far.front begins.0 (46 ∷ behind));
  so_far = record { name = so_far.name; at_most_63 = is_label.at_most_63; dotted = so_far.front; ending = begins.0; form = refl; labels = so_far.spells; octets = begins.2 };
  there = ((behind, refl), (λ none. omega (arith, is_label.not_empty, ap length none)), omega (arith, length_push so_far.whole label, ap length so_far.octets_of));
}

-- a fault within a label
pub fault_in_label : (text octets rest : List ℕ) (fault : NameError) → LabelsSoFar text octets rest → text ≢ 46 ∷ [] → LabelFault rest fault → FirstFault text fault
fault_in_label text octets rest fault so_far not_root at = record {
  not_root = not_root;
  front = so_far.front ++ at.front;
  rest = at.rest;
  whole = so_far.whole;
  begun = at.begun;
  form = so_far.form ∙ ap (λ text. so_far.front ++ text) at.form ∙ sym (append_assoc so_far.front at.front at.rest);
  so_far = record { name = so_far.name; at_most_63 = at.at_most_63; dotted = so_far.front; ending = at.front; form = refl; labels = so_far.spells; octets = at.octets };
  there = at.there so_far.whole;
}

no_labels : (labels : Labels) → unrooted labels ≡ [] → labels ≡ []
no_labels [] none = refl
no_labels (label ∷ labels) none = absurd (cc)

-- the end without a label
pub not_absolute : (text octets rest : List ℕ) → LabelsSoFar text octets rest → text ≢ 46 ∷ [] → rest ≡ [] → octets ≡ [] → FirstFault text NotAbsolute
not_absolute text octets rest so_far not_root ends none = record {
  not_root = not_root;
  front = so_far.front;
  rest = rest;
  whole = so_far.whole;
  begun = [];
  form = so_far.form;
  so_far = record {
    name = so_far.name;
    at_most_63 = omega arith;
    dotted = so_far.front;
    ending = [];
    form = sym (append-nil so_far.front);
    labels = so_far.spells;
    octets = refl;
  };
  there = (ends, inr (no_labels so_far.whole (sym so_far.octets_of ∙ none)));
}

text_of_labels : (labels : Labels) (text : List ℕ) → unrooted labels ≢ [] → SpellsLabels text labels → IsTextOf text labels
text_of_labels [] text some spells = absurd (some refl)
text_of_labels (label ∷ labels) text some spells = spells

-- the end behind a label: the octets and the root are the name's wire form
pub record NameFrom (text octets : List ℕ) : Type 0 where
  pub spells : SpellsName octets
  pub text_of : IsTextOf text (labels_of octets)

pub name_from : (text octets rest : List ℕ) → LabelsSoFar text octets rest → rest ≡ [] → octets ≢ [] → NameFrom text (octets ++ 0 ∷ [])
name_from text octets rest so_far ends some =
    let form : octets ++ 0 ∷ [] ≡ wire so_far.whole = ap (λ before. before ++ 0 ∷ []) so_far.octets_of ∙ sym (wire-unrooted so_far.whole) in
    let labels : labels_of (octets ++ 0 ∷ []) ≡ so_far.whole = ap labels_of form ∙ labels_of-wire so_far.whole so_far.name.each in
    let front : text ≡ so_far.front = so_far.form ∙ ap (λ more. so_far.front ++ more) ends ∙ append-nil so_far.front in
    let P : List ℕ → Type 0 = λ t. SpellsLabels t so_far.whole in
    record {
      spells = SpellsName-wire so_far.whole (octets ++ 0 ∷ []) so_far.name form;
      text_of = rw labels (text_of_labels so_far.whole text (λ none. some (so_far.octets_of ∙ none)) (subst P (sym front) so_far.spells));
    }

-- there is room for the root
pub room_for_root : {text octets rest : List ℕ} → LabelsSoFar text octets rest → length octets < 255
room_for_root {text} {octets} so_far =
    omega (arith, ap length so_far.octets_of, ap length (wire-unrooted so_far.whole), length-append (unrooted so_far.whole) (0 ∷ []), so_far.name.at_most_255)

-- what a test of the length has told
pub none_left : (octets : List ℕ) → true ≡ (length octets == 0) → octets ≡ []
none_left [] test = refl
none_left (octet ∷ octets) test = absurd (grind (arith, nat_tests))

pub some_left : (octets : List ℕ) → false ≡ (length octets == 0) → octets ≢ []
some_left octets test none = let zero_long : length octets ≡ 0 = ap length none in grind (arith, nat_tests)
