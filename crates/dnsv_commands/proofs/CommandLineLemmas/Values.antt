-- The values that a subcommand without a fault has.
use Rattle.std.proofs.Common.{◌≡◌, ◌∙◌, ℕ, Bool, true, false, not, List, Option, Some, None, ap, refl, sym, subst, inl, inr}
use Rattle.std.proofs.lemmas.Slice.Eq.{bytes_eq-Decides}
use Rattle.clap.specs.Words.{Text}
use Rattle.std.specs.Prelude.{◌&&◌, ◌||◌, [], ◌∷◌, is_some, cond, codes, find, slice_get, unwrap_or}
use Rattle.std.specs.List.{list_any}
use Rattle.std.specs.Str.{bytes_eq}
use Rattle.std.specs.Option.{option_map_or}
use Rattle.clap.specs.Facts.{explicit_source}
use Rattle.clap.specs.Kinds.{check_kinds}
use Rattle.clap.specs.Faults.{check_fault}
use Rattle.clap.specs.Simple.{App, Shape, built, built_leaf, filled, inherited, marked_built}
use Rattle.clap.specs.Takes.{is_given, value_passes}
use Rattle.clap.specs.Values.{read_as}
use Rattle.clap.specs.Walk.{Row, Rule, first_of, one_of, reading_by}
use Rattle.clap.specs.Words.{new_rule}
use Rattle.dnsv_commands.proofs.CommandLineLemmas.Rows.{AreRowsIn, IsIn, IsRowIn, IsRowOf, StartsPassing}
use Rattle.clap.specs.declared.builder.ArgAction.TheVariants.{SetTrue}
use Rattle.dnsv_commands.specs.Commands.{anchors_rule, capture_rule, list_app, moment_rule, name_rule, needed, program_app, question_app, show_app, timeline_app, type_rule}
use Rattle.dnsv_commands.specs.CommandLine.{HasCapture, HasCheckValues, HasListValues, HasNumber, HasTimelineValues, HasValue, IsFlag, MayHaveNumber}
use Rattle.dnsv_questions.specs.Moment.{last_moment}

-- what building makes of the program and of its subcommands
abbrev pub program_shape : Shape
program_shape = (built program_app).top

abbrev leaf : App → Shape
leaf command = built_leaf (inherited (marked_built program_app.top) command.top)

abbrev pub show_shape : Shape
show_shape = leaf show_app

abbrev pub list_shape : Shape
list_shape = leaf list_app

abbrev pub question_shape : Bool → Shape
question_shape why = leaf (question_app why)

abbrev pub timeline_shape : Shape
timeline_shape = leaf timeline_app

abbrev pub sub_shapes : List Shape
sub_shapes = show_shape ∷ list_shape ∷ question_shape false ∷ question_shape true ∷ timeline_shape ∷ []

-- an argument has a value that it takes
abbrev HasValueOf : Rule → Text → List Row → Type 0
HasValueOf a id rows = (v : Text) × (first_of id rows ≡ Some v)
    × (one_of id rows ≡ Some (read_as (reading_by a) v)) × (value_passes a v ≡ true)

first_passes : (a : Rule) (vs : List Text) → StartsPassing a vs → (v : Text) × (slice_get vs 0 ≡ Some v) × (value_passes a v ≡ true)
first_passes a [] starts = absurd starts
first_passes a (v ∷ vs) starts = (v, refl, starts)

row_value : (a : Rule) (id : Text) (rows : List Row) (r : Row) → find (λ r. bytes_eq r.id id) rows ≡ Some r → IsRowOf a r → HasValueOf a id rows
row_value a id rows r found is =
    let got = first_passes a r.values is.2 in (
      got.0,
      rw found got.1,
      rw (found, got.1, is.1) refl,
      got.2,
    )

found_row : (c : List Rule) (id : Text) (rows : List Row) (r : Row) → AreRowsIn c rows → find (λ r. bytes_eq r.id id) rows ≡ Some r
    → (r.id ≡ id) × IsRowIn c r
found_row c id [] r all found = cc
found_row c id (x ∷ xs) r all found = go (bytes_eq x.id id) refl found (λ rest. found_row c id xs r all.1 rest)
  where
    go : (t : Bool) → bytes_eq x.id id ≡ t → cond t (Some x) (find (λ r. bytes_eq r.id id) xs) ≡ Some r
        → (find (λ r. bytes_eq r.id id) xs ≡ Some r → (r.id ≡ id) × IsRowIn c r) → (r.id ≡ id) × IsRowIn c r
    go true t same rest =
        let is : x ≡ r = ap (λ (o : Option Row). unwrap_or o x) same in
        (ap (λ (y : Row). y.id) (sym is) ∙ (bytes_eq-Decides x.id id).0 t, subst (IsRowIn c) is all.0)
    go false t same rest = rest same

-- of these arguments only this one has the id
abbrev IsOnly : List Rule → Text → Rule → Type 0
IsOnly [] id a = Unit {0}
IsOnly (b ∷ c) id a = (bytes_eq b.id id ≡ true → b ≡ a) × IsOnly c id a

only_row : (c : List Rule) (id : Text) (a : Rule) (r : Row) → IsOnly c id a → r.id ≡ id → IsRowIn c r → IsRowOf a r
only_row [] id a r only same at = absurd at
only_row (b ∷ c) id a r only same (inl h) =
    subst (λ (x : Rule). IsRowOf x r) (only.0 ((bytes_eq-Decides b.id id).1 (h.0 ∙ same))) h
only_row (b ∷ c) id a r only same (inr h) = only_row c id a r only.1 same h

-- the row of an option has a value that the option takes, where it has a row
value_found : (s : Shape) (id : Text) (a : Rule) (rows : List Row) (r : Row) → IsOnly s.rules id a → AreRowsIn s.rules rows
    → find (λ r. bytes_eq r.id id) rows ≡ Some r → HasValueOf a id rows
value_found s id a rows r only all found =
    let row = found_row s.rules id rows r all found in
    row_value a id rows r found (only_row s.rules id a r only row.0 row.1)

-- an option that was given has a value
value_given : (s : Shape) (id : Text) (a : Rule) (rows : List Row) → IsOnly s.rules id a → AreRowsIn s.rules rows
    → is_given id rows ≡ true → HasValueOf a id rows
value_given s id a rows only all given = go (find (λ r. bytes_eq r.id id) rows) refl given
  where
    go : (o : Option Row) → find (λ r. bytes_eq r.id id) rows ≡ o → option_map_or (λ r. explicit_source r.source) o false ≡ true
        → HasValueOf a id rows
    go None is h = cc
    go (Some r) is h = value_found s id a rows r only all is

none_missing : (help sub missing : Bool) → check_kinds help sub missing ≡ [] → missing ≡ false
none_missing true sub missing e = cc
none_missing false true missing e = cc
none_missing false false true e = cc
none_missing false false false e = refl

is_required : (required given : Bool) → (required && not given) ≡ false → required ≡ true → given ≡ true
is_required true true e has = refl
is_required true false e has = cc
is_required false given e has = cc

none_of_two : (x y : Bool) → (x || y) ≡ false → (x ≡ false) × (y ≡ false)
none_of_two true y e = cc
none_of_two false y e = (refl, e)

-- an argument that has to be there is given, where none is missing
given_where_required : (c : List Rule) (rows : List Row) (a : Rule) → list_any (λ a. a.required && not (is_given a.id rows)) c ≡ false
    → IsIn c a → a.required ≡ true → is_given a.id rows ≡ true
given_where_required [] rows a none at required = absurd at
given_where_required (b ∷ c) rows a none (inl same) required =
    let two = none_of_two (b.required && not (is_given b.id rows)) (list_any (λ a. a.required && not (is_given a.id rows)) c) none in
    ap (λ (x : Rule). is_given x.id rows) (sym same)
    ∙ is_required b.required (is_given b.id rows) two.0 (ap (λ (x : Rule). x.required) same ∙ required)
given_where_required (b ∷ c) rows a none (inr at) required =
    given_where_required c rows a (none_of_two (b.required && not (is_given b.id rows)) (list_any (λ a. a.required && not (is_given a.id rows)) c) none).1 at required

-- a required option of a subcommand without a fault has a value
required_value : (s : Shape) (a : Rule) (rows : List Row) → IsOnly s.rules a.id a → IsIn s.rules a → a.required ≡ true → s.subcommand_negates_reqs ≡ false
    → AreRowsIn s.rules rows → check_fault s rows false ≡ [] → HasValueOf a a.id rows
required_value s a rows only at required negates all fault =
    let missing = none_missing (s.arg_required_else_help && not (list_any (λ r. explicit_source r.source) rows)) s.subcommand_required
    (not (s.subcommand_negates_reqs && false) && list_any (λ a. a.required && not (is_given a.id rows)) s.rules) fault in
    value_given s a.id a rows only all (given_where_required s.rules rows a (rw negates at missing) at required)

has_value : (a : Rule) (id : Text) (rows : List Row) → HasValueOf a id rows → HasValue id rows
has_value a id rows value = ap is_some value.1

-- the options, as built
abbrev built_capture : Rule
built_capture = filled capture_rule

abbrev built_anchors : Rule
built_anchors = filled anchors_rule

abbrev built_moment : Text → Rule
built_moment word = filled (moment_rule word)

abbrev built_type : Rule
built_type = filled type_rule

abbrev built_flag : Text → Rule
built_flag word = filled (record (new_rule word) { long = Some word; action = Some SetTrue })

-- those that have to be there
abbrev needed_moment : Text → Rule
needed_moment word = filled (needed (moment_rule word))

abbrev needed_name : Rule
needed_name = filled (needed name_rule)

abbrev needed_type : Rule
needed_type = filled (needed type_rule)

-- ---- numbers and flags

-- the number of an option that may be given
number_may : (s : Shape) (a : Rule) (id : Text) (last : ℕ) (rows : List Row) → (HasValueOf a id rows → HasNumber id last rows)
    → IsOnly s.rules id a → AreRowsIn s.rules rows → MayHaveNumber id last rows
number_may s a id last rows has only all = go (find (λ r. bytes_eq r.id id) rows) refl
  where
    go : (o : Option Row) → find (λ r. bytes_eq r.id id) rows ≡ o → MayHaveNumber id last rows
    go None is = inl (rw is refl, rw is refl)
    go (Some r) is = inr (has (value_found s id a rows r only all is))

moment_may : (s : Shape) (word : Text) (rows : List Row) → IsOnly s.rules word (built_moment word) → AreRowsIn s.rules rows
    → MayHaveNumber word last_moment rows
moment_may s word rows = number_may s (built_moment word) word last_moment rows (λ number. (number.0, number.1, number.2, number.3))

type_may : (s : Shape) (rows : List Row) → IsOnly s.rules (codes "type") built_type → AreRowsIn s.rules rows → MayHaveNumber (codes "type") 65535 rows
type_may s rows = number_may s built_type (codes "type") 65535 rows (λ number. (number.0, number.1, number.2, number.3))

-- the text of a flag, by what the flag takes
flag_text : (text : Text) → (bytes_eq text (codes "true") || bytes_eq text (codes "false")) ≡ true → IsFlag (Some text)
flag_text text passes = go (bytes_eq text (codes "true")) (bytes_eq text (codes "false")) refl refl passes
  where
    go : (x y : Bool) → bytes_eq text (codes "true") ≡ x → bytes_eq text (codes "false") ≡ y → (x || y) ≡ true → IsFlag (Some text)
    go true y is_x is_y e = inr (inl (ap (λ t. Some t) ((bytes_eq-Decides text (codes "true")).0 is_x)))
    go false true is_x is_y e = inr (inr (ap (λ t. Some t) ((bytes_eq-Decides text (codes "false")).0 is_y)))
    go false false is_x is_y e = cc

flag_has : (s : Shape) (word : Text) (rows : List Row) → IsOnly s.rules word (built_flag word) → AreRowsIn s.rules rows → IsFlag (one_of word rows)
flag_has s word rows only all = go (find (λ r. bytes_eq r.id word) rows) refl
  where
    go : (o : Option Row) → find (λ r. bytes_eq r.id word) rows ≡ o → IsFlag (one_of word rows)
    go None is = inl (rw is refl)
    go (Some r) is =
        let value = value_found s word (built_flag word) rows r only all is in
        subst IsFlag (sym value.2) (flag_text value.0 value.3)

-- ---- the values of each subcommand

pub show_values : (rows : List Row) → AreRowsIn show_shape.rules rows → check_fault show_shape rows false ≡ [] → HasCapture rows
show_values rows all fault =
    let file = required_value show_shape built_capture rows (λ e. refl, (λ e. cc, tt)) (inl refl) refl refl all fault in
    has_value built_capture (codes "capture") rows file

pub list_values : (rows : List Row) → AreRowsIn list_shape.rules rows → check_fault list_shape rows false ≡ [] → HasListValues rows
list_values rows all fault =
    let file = required_value list_shape built_capture rows (λ e. refl, (λ e. cc, (λ e. cc, (λ e. cc, (λ e. cc, (λ e. cc, (λ e. cc, (λ e. cc, (λ e. cc, tt))))))))) (inl refl) refl refl all fault in (
      has_value built_capture (codes "capture") rows file,
      (
        moment_may list_shape (codes "moment") rows (λ e. cc, (λ e. refl, (λ e. cc, (λ e. cc, (λ e. cc, (λ e. cc, (λ e. cc, (λ e. cc, (λ e. cc, tt))))))))) all,
        moment_may list_shape (codes "from") rows (λ e. cc, (λ e. cc, (λ e. refl, (λ e. cc, (λ e. cc, (λ e. cc, (λ e. cc, (λ e. cc, (λ e. cc, tt))))))))) all,
        moment_may list_shape (codes "to") rows (λ e. cc, (λ e. cc, (λ e. cc, (λ e. refl, (λ e. cc, (λ e. cc, (λ e. cc, (λ e. cc, (λ e. cc, tt))))))))) all,
      ),
      flag_has list_shape (codes "all") rows (λ e. cc, (λ e. cc, (λ e. cc, (λ e. cc, (λ e. cc, (λ e. refl, (λ e. cc, (λ e. cc, (λ e. cc, tt))))))))) all,
      flag_has list_shape (codes "compact") rows (λ e. cc, (λ e. cc, (λ e. cc, (λ e. cc, (λ e. cc, (λ e. cc, (λ e. refl, (λ e. cc, (λ e. cc, tt))))))))) all,
      flag_has list_shape (codes "json") rows (λ e. cc, (λ e. cc, (λ e. cc, (λ e. cc, (λ e. cc, (λ e. cc, (λ e. cc, (λ e. refl, (λ e. cc, tt))))))))) all,
    )

module _ (why : Bool) (rows : List Row) (all : AreRowsIn (question_shape why).rules rows) (fault : check_fault (question_shape why) rows false ≡ []) where
  check_capture : HasValueOf built_capture built_capture.id rows
  check_capture = required_value (question_shape why) built_capture rows (λ e. refl, (λ e. cc, (λ e. cc, (λ e. cc, (λ e. cc, (λ e. cc, (λ e. cc, (λ e. cc, (λ e. cc, (λ e. cc, (λ e. cc, (λ e. cc, tt)))))))))))) (inl refl) refl refl all fault

  check_anchors : HasValueOf built_anchors built_anchors.id rows
  check_anchors = required_value (question_shape why) built_anchors rows (λ e. cc, (λ e. refl, (λ e. cc, (λ e. cc, (λ e. cc, (λ e. cc, (λ e. cc, (λ e. cc, (λ e. cc, (λ e. cc, (λ e. cc, (λ e. cc, tt)))))))))))) (inr (inl refl)) refl refl all fault

  check_moment : HasValueOf (needed_moment (codes "moment")) (codes "moment") rows
  check_moment =
      required_value (question_shape why) (needed_moment (codes "moment")) rows (λ e. cc, (λ e. cc, (λ e. refl, (λ e. cc, (λ e. cc, (λ e. cc, (λ e. cc, (λ e. cc, (λ e. cc, (λ e. cc, (λ e. cc, (λ e. cc, tt)))))))))))) (inr (inr (inl refl))) refl refl all fault

  pub check_values : HasCheckValues rows
  check_values = (
    has_value built_capture (codes "capture") rows check_capture,
    has_value built_anchors (codes "anchors") rows check_anchors,
    (check_moment.0, check_moment.1, check_moment.2, check_moment.3),
    type_may (question_shape why) rows (λ e. cc, (λ e. cc, (λ e. cc, (λ e. cc, (λ e. refl, (λ e. cc, (λ e. cc, (λ e. cc, (λ e. cc, (λ e. cc, (λ e. cc, (λ e. cc, tt)))))))))))) all,
    flag_has (question_shape why) (codes "json") rows (λ e. cc, (λ e. cc, (λ e. cc, (λ e. cc, (λ e. cc, (λ e. cc, (λ e. cc, (λ e. cc, (λ e. cc, (λ e. cc, (λ e. refl, (λ e. cc, tt)))))))))))) all,
  )

module _ (rows : List Row) (all : AreRowsIn timeline_shape.rules rows) (fault : check_fault timeline_shape rows false ≡ []) where
  timeline_capture : HasValueOf built_capture built_capture.id rows
  timeline_capture = required_value timeline_shape built_capture rows (λ e. refl, (λ e. cc, (λ e. cc, (λ e. cc, (λ e. cc, (λ e. cc, (λ e. cc, (λ e. cc, (λ e. cc, (λ e. cc, (λ e. cc, tt))))))))))) (inl refl) refl refl all fault

  timeline_anchors : HasValueOf built_anchors built_anchors.id rows
  timeline_anchors = required_value timeline_shape built_anchors rows (λ e. cc, (λ e. refl, (λ e. cc, (λ e. cc, (λ e. cc, (λ e. cc, (λ e. cc, (λ e. cc, (λ e. cc, (λ e. cc, (λ e. cc, tt))))))))))) (inr (inl refl)) refl refl all fault

  timeline_from : HasValueOf (needed_moment (codes "from")) (codes "from") rows
  timeline_from = required_value timeline_shape (needed_moment (codes "from")) rows (λ e. cc, (λ e. cc, (λ e. refl, (λ e. cc, (λ e. cc, (λ e. cc, (λ e. cc, (λ e. cc, (λ e. cc, (λ e. cc, (λ e. cc, tt))))))))))) (inr (inr (inl refl))) refl refl all fault

  timeline_to : HasValueOf (needed_moment (codes "to")) (codes "to") rows
  timeline_to = required_value timeline_shape (needed_moment (codes "to")) rows (λ e. cc, (λ e. cc, (λ e. cc, (λ e. refl, (λ e. cc, (λ e. cc, (λ e. cc, (λ e. cc, (λ e. cc, (λ e. cc, (λ e. cc, tt))))))))))) (inr (inr (inr (inl refl)))) refl refl all fault

  timeline_name : HasValueOf needed_name (codes "name") rows
  timeline_name = required_value timeline_shape needed_name rows (λ e. cc, (λ e. cc, (λ e. cc, (λ e. cc, (λ e. refl, (λ e. cc, (λ e. cc, (λ e. cc, (λ e. cc, (λ e. cc, (λ e. cc, tt))))))))))) (inr (inr (inr (inr (inl refl))))) refl refl all fault

  timeline_type : HasValueOf needed_type (codes "type") rows
  timeline_type = required_value timeline_shape needed_type rows (λ e. cc, (λ e. cc, (λ e. cc, (λ e. cc, (λ e. cc, (λ e. refl, (λ e. cc, (λ e. cc, (λ e. cc, (λ e. cc, (λ e. cc, tt))))))))))) (inr (inr (inr (inr (inr (inl refl)))))) refl refl all fault

  pub timeline_values : HasTimelineValues rows
  timeline_values = (
    has_value built_capture (codes "capture") rows timeline_capture,
    has_value built_anchors (codes "anchors") rows timeline_anchors,
    (timeline_from.0, timeline_from.1, timeline_from.2, timeline_from.3),
    (timeline_to.0, timeline_to.1, timeline_to.2, timeline_to.3),
    has_value needed_name (codes "name") rows timeline_name,
    (timeline_type.0, timeline_type.1, timeline_type.2, timeline_type.3),
    flag_has timeline_shape (codes "kinds") rows (λ e. cc, (λ e. cc, (λ e. cc, (λ e. cc, (λ e. cc, (λ e. cc, (λ e. cc, (λ e. cc, (λ e. refl, (λ e. cc, (λ e. cc, tt))))))))))) all,
    flag_has timeline_shape (codes "json") rows (λ e. cc, (λ e. cc, (λ e. cc, (λ e. cc, (λ e. cc, (λ e. cc, (λ e. cc, (λ e. cc, (λ e. cc, (λ e. refl, (λ e. cc, tt))))))))))) all,
  )
