-- Which records say what decides which forms stand, and which records are chosen.
use Rattle.std.proofs.Common.{◌+◌, ℕ, List, inl, inr, ⊎_elim}
use Rattle.std.specs.declared.cmp.Ordering.{Ordering}
use Rattle.dnsv_names.specs.Name.{Labels, rightmost}
use Rattle.dnsv_names.specs.Tree.{wildcard_of}
use Rattle.dnsv_zones.specs.forms.Forms.{EndsAt, NoNameForm, NoDataForm, EmptyForm, NoWildcardDataForm, EmptyWildcardForm, NoDataForms, NoCloserForm, UnsignedCutForm}
use Rattle.dnsv_zones.specs.forms.Parts.{IsFirstToSay, IsEncloserPart, no_record, a_record, at_name, empty, at_wildcard, empty_wildcard, AreEndParts, AreWildcardParts, AreNoNameParts, AreWildcardDataParts, AreEmptyWildcardParts, AreNoDataParts, OptsOut}
use Rattle.dnsv_zones.specs.forms.RecordWords.{RecordWords, words}
use Rattle.dnsv_zones.specs.zones.Types.{Denies}

-- what some records say, others say too
pub record SaysNoLess {Index : Type 0} (a b : RecordWords Index) : Type 1 where
  pub needs_none : (name : Labels) → a.NeedsNone name → b.NeedsNone name
  pub encloser : (name : Labels) (index : Index) → a.Encloser name index → b.Encloser name index
  pub absent : (name : Labels) (index : Index) → a.Absent name index → b.Absent name index
  pub empty_non_terminal : (name : Labels) (index : Index) → a.EmptyNonTerminal name index → b.EmptyNonTerminal name index
  pub types_at : (name : Labels) (Says : (ℕ → Type 0) → Type 0) (index : Index) → a.TypesAt name Says index → b.TypesAt name Says index
  pub opted_out : (name : Labels) (index : Index) → a.OptedOut name index → b.OptedOut name index

-- ---- forms

module _ {Index : Type 0} (a b : RecordWords Index) (less : SaysNoLess a b) where
  some : (P Q : Index → Type 0) → ((index : Index) → P index → Q index) → (index : Index) × P index → (index : Index) × Q index
  some P Q f found = (found.0, f found.0 found.1)

  pub encloser_to : (name : Labels) → (words a).Encloser name → (words b).Encloser name
  encloser_to name said =
      ⊎_elim (λ (none : a.NeedsNone name). inl (less.needs_none name none))
      (λ (found : (index : Index) × a.Encloser name index). inr (some (a.Encloser name) (b.Encloser name) (less.encloser name) found)) said

  pub absent_to : (name : Labels) → (words a).Absent name → (words b).Absent name
  absent_to name = some (a.Absent name) (b.Absent name) (less.absent name)

  pub empty_non_terminal_to : (name : Labels) → (words a).EmptyNonTerminal name → (words b).EmptyNonTerminal name
  empty_non_terminal_to name = some (a.EmptyNonTerminal name) (b.EmptyNonTerminal name) (less.empty_non_terminal name)

  pub types_to : (name : Labels) (Says : (ℕ → Type 0) → Type 0) → (words a).TypesAt name Says → (words b).TypesAt name Says
  types_to name Says = some (a.TypesAt name Says) (b.TypesAt name Says) (less.types_at name Says)

  pub ends_to : (apex name : Labels) (labels : ℕ) → EndsAt (words a) apex name labels → EndsAt (words b) apex name labels
  ends_to apex name labels ends = record {
    above = ends.above;
    encloser = encloser_to (rightmost name labels) ends.encloser;
    next_closer = absent_to (rightmost name (labels + 1)) ends.next_closer;
  }

  abbrev pub no_name_to : (apex name : Labels) → NoNameForm (words a) apex name → NoNameForm (words b) apex name
  no_name_to apex name form = record {
    labels = form.labels;
    ends = ends_to apex name form.labels form.ends;
    wildcard = absent_to (wildcard_of (rightmost name form.labels)) form.wildcard;
  }

  pub no_data_at_name_to : (apex name : Labels) (t : ℕ) → NoDataForm (words a) apex name t → NoDataForm (words b) apex name t
  no_data_at_name_to apex name t form = record { within = form.within; types = types_to name (λ has. Denies has t) form.types }

  pub empty_to : (apex name : Labels) → EmptyForm (words a) apex name → EmptyForm (words b) apex name
  empty_to apex name form = record { within = form.within; empty_non_terminal = empty_non_terminal_to name form.empty_non_terminal }

  abbrev pub wildcard_data_to : (apex name : Labels) (t : ℕ) → NoWildcardDataForm (words a) apex name t → NoWildcardDataForm (words b) apex name t
  wildcard_data_to apex name t form = record {
    labels = form.labels;
    ends = ends_to apex name form.labels form.ends;
    types = types_to (wildcard_of (rightmost name form.labels)) (λ has. Denies has t) form.types;
  }

  abbrev pub empty_wildcard_to : (apex name : Labels) → EmptyWildcardForm (words a) apex name → EmptyWildcardForm (words b) apex name
  empty_wildcard_to apex name form = record {
    labels = form.labels;
    ends = ends_to apex name form.labels form.ends;
    empty_non_terminal = empty_non_terminal_to (wildcard_of (rightmost name form.labels)) form.empty_non_terminal;
  }

  pub no_data_to : (apex name : Labels) (t : ℕ) → NoDataForms (words a) apex name t → NoDataForms (words b) apex name t
  no_data_to apex name t (inl form) = inl (no_data_at_name_to apex name t form)
  no_data_to apex name t (inr (inl form)) = inr (inl (empty_to apex name form))
  no_data_to apex name t (inr (inr (inl form))) = inr (inr (inl (wildcard_data_to apex name t form)))
  no_data_to apex name t (inr (inr (inr form))) = inr (inr (inr (empty_wildcard_to apex name form)))

  pub no_closer_to : (apex name : Labels) (labels : ℕ) → NoCloserForm (words a) apex name labels → NoCloserForm (words b) apex name labels
  no_closer_to apex name labels form =
      record { above = form.above; next_closer = absent_to (rightmost name (labels + 1)) form.next_closer }

  pub cut_to : (apex name cut : Labels) → UnsignedCutForm (words a) apex name cut → UnsignedCutForm (words b) apex name cut
  cut_to apex name cut form = record { at_or_above = form.at_or_above; below_apex = form.below_apex; types = types_to cut _ form.types }

  pub opts_out_to : (apex name : Labels) (labels : ℕ) → OptsOut a apex name labels → OptsOut b apex name labels
  opts_out_to apex name labels form =
      let opt_out : (at : Labels) → (index : Index) × a.OptedOut at index → (index : Index) × b.OptedOut at index
      = λ at. some (a.OptedOut at) (b.OptedOut at) (less.opted_out at) in record {
        above = form.above;
        encloser = encloser_to (rightmost name labels) form.encloser;
        next_closer = ⊎_elim (λ (without_opt_out : (words a).Absent (rightmost name (labels + 1))). inl (absent_to _ without_opt_out))
            (λ (out : (index : Index) × a.OptedOut (rightmost name (labels + 1)) index). inr (opt_out _ out)) form.next_closer;
        opted_out = ⊎_elim (λ (out : (index : Index) × a.OptedOut (rightmost name (labels + 1)) index). inl (opt_out _ out))
            (λ (out : (index : Index) × a.OptedOut (wildcard_of (rightmost name labels)) index). inr (opt_out _ out)) form.opted_out;
      }

-- ---- chosen records

module _ {Index : Type 0} (cmp : Index → Index → Ordering) (a b : RecordWords Index) (to : SaysNoLess a b) (from : SaysNoLess b a) where
  pub first_such_to : (P Q : Index → Type 0) → ((index : Index) → P index → Q index) → ((index : Index) → Q index → P index)
      → (index : Index) → IsFirstToSay cmp P index → IsFirstToSay cmp Q index
  first_such_to P Q f g index earliest =
      record { says = f index earliest.says; earliest = λ other says. earliest.earliest other (g other says) }

  encloser_part_to : (encloser : Labels) (parts : List Index) → IsEncloserPart cmp a encloser parts → IsEncloserPart cmp b encloser parts
  encloser_part_to encloser _ (no_record none) = no_record (to.needs_none encloser none)
  encloser_part_to encloser _ (a_record index needs earliest) =
      a_record index (λ none. needs (from.needs_none encloser none))
      (first_such_to (a.Encloser encloser) (b.Encloser encloser) (to.encloser encloser) (from.encloser encloser) index earliest)

  end_parts_to : (apex name : Labels) (labels : ℕ) (parts : List Index) → AreEndParts cmp a apex name labels parts → AreEndParts cmp b apex name labels parts
  end_parts_to apex name labels parts ends = record {
    above = ends.above;
    encloser_part = ends.encloser_part;
    encloser = encloser_part_to (rightmost name labels) ends.encloser_part ends.encloser;
    covering = ends.covering;
    next_closer = let next_closer = rightmost name (labels + 1) in first_such_to (a.Absent next_closer) (b.Absent next_closer) (to.absent next_closer) (from.absent next_closer) ends.covering ends.next_closer;
    both = ends.both;
  }

  wildcard_parts_to : (apex name : Labels) (labels : ℕ) (P Q : Index → Type 0) → ((index : Index) → P index → Q index)
      → ((index : Index) → Q index → P index) → (parts : List Index)
      → AreWildcardParts cmp a apex name labels P parts → AreWildcardParts cmp b apex name labels Q parts
  wildcard_parts_to apex name labels P Q f g parts are = record {
    end_parts = are.end_parts;
    ends = end_parts_to apex name labels are.end_parts are.ends;
    last = are.last;
    wildcard = first_such_to P Q f g are.last are.wildcard;
    all = are.all;
  }

  pub no_name_parts_to : (apex name : Labels) (parts : List Index) → AreNoNameParts cmp a apex name parts → AreNoNameParts cmp b apex name parts
  no_name_parts_to apex name parts are = let wildcard = wildcard_of (rightmost name are.labels) in record {
    labels = are.labels;
    are = wildcard_parts_to apex name are.labels (a.Absent wildcard) (b.Absent wildcard) (to.absent wildcard) (from.absent wildcard) parts are.are;
    most_labels = λ form. are.most_labels (no_name_to b a from apex name form);
  }

  wildcard_data_parts_to : (apex name : Labels) (t : ℕ) (parts : List Index) → AreWildcardDataParts cmp a apex name t parts → AreWildcardDataParts cmp b apex name t parts
  wildcard_data_parts_to apex name t parts are =
      let wildcard = wildcard_of (rightmost name are.labels) in
      let Says : (ℕ → Type 0) → Type 0 = λ has. Denies has t in record {
        labels = are.labels;
        are = wildcard_parts_to apex name are.labels (a.TypesAt wildcard Says) (b.TypesAt wildcard Says) (to.types_at wildcard Says) (from.types_at wildcard Says) parts are.are;
        most_labels = λ form. are.most_labels (wildcard_data_to b a from apex name t form);
      }

  empty_wildcard_parts_to : (apex name : Labels) (parts : List Index) → AreEmptyWildcardParts cmp a apex name parts → AreEmptyWildcardParts cmp b apex name parts
  empty_wildcard_parts_to apex name parts are = let wildcard = wildcard_of (rightmost name are.labels) in record {
    labels = are.labels;
    are = wildcard_parts_to apex name are.labels (a.EmptyNonTerminal wildcard) (b.EmptyNonTerminal wildcard) (to.empty_non_terminal wildcard) (from.empty_non_terminal wildcard) parts are.are;
    most_labels = λ form. are.most_labels (empty_wildcard_to b a from apex name form);
  }

  pub no_data_parts_to : (apex name : Labels) (t : ℕ) (parts : List Index) → AreNoDataParts cmp a apex name t parts → AreNoDataParts cmp b apex name t parts
  no_data_parts_to apex name t _ (at_name index within earliest) =
      let Says : (ℕ → Type 0) → Type 0 = λ has. Denies has t in
      at_name index within (first_such_to (a.TypesAt name Says) (b.TypesAt name Says) (to.types_at name Says) (from.types_at name Says) index earliest)
  no_data_parts_to apex name t _ (empty index not_here within earliest) =
      empty index (λ form. not_here (no_data_at_name_to b a from apex name t form)) within
      (first_such_to (a.EmptyNonTerminal name) (b.EmptyNonTerminal name) (to.empty_non_terminal name) (from.empty_non_terminal name) index earliest)
  no_data_parts_to apex name t _ (at_wildcard parts not_here not_empty are) =
      at_wildcard parts (λ form. not_here (no_data_at_name_to b a from apex name t form))
      (λ form. not_empty (empty_to b a from apex name form)) (wildcard_data_parts_to apex name t parts are)
  no_data_parts_to apex name t _ (empty_wildcard parts not_here not_empty not_there are) =
      empty_wildcard parts (λ form. not_here (no_data_at_name_to b a from apex name t form))
      (λ form. not_empty (empty_to b a from apex name form))
      (λ form. not_there (wildcard_data_to b a from apex name t form)) (empty_wildcard_parts_to apex name parts are)
