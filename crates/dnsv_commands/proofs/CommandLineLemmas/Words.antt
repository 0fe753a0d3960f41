-- What the matches of each subcommand read as, and that they have them.
use Rattle.std.proofs.Common.{◌≡◌, ◌⊎◌, ◌≤◌, ◌∙◌, ℕ, Bool, true, false, not, List, Option, Some, None, ap, refl, sym, subst, inl, inr, arith, slice_index}
use Rattle.std.proofs.lemmas.Slice.Eq.{bytes_eq-Decides}
use Rattle.std.specs.Prelude.{IfErr, IfOk, IsErrAnd, Ok, Err, Result}
use Rattle.std.specs.Str.Parse.{ParsesUnsigned}
use Rattle.clap.specs.Words.{ReadsOne, Text}
use Rattle.clap.specs.ValueTests.{is_unsigned_in}
use Rattle.std.specs.Prelude.{◌&&◌, [], ◌∷◌, is_some, option_map, cond, codes, find, unwrap_or}
use Rattle.std.specs.List.{list_any}
use Rattle.std.specs.Str.{bytes_eq}
use Rattle.std.specs.Option.{option_map_or}
use Rattle.clap.specs.Facts.{explicit_source}
use Rattle.clap.specs.Kinds.{HasKind, IsAmong, check_kinds}
use Rattle.clap.specs.Faults.{built_fault, check_fault, entered_fault, fault_of, is_simple_and_free, level_fault}
use Rattle.clap.specs.Simple.{App, HasMatchesOf, Shape, argument_words, entered, is_simple, label_of, names_of, rows_at, subcommand_of, subcommand_rows_of}
use Rattle.clap.specs.Takes.{is_given}
use Rattle.clap.specs.Values.{kind_of}
use Rattle.clap.specs.Walk.{Row, answers_to, nothing_held, rows_after, stop_after}
use Rattle.clap.specs.declared.ArgMatches.{ArgMatches}
use Rattle.clap.specs.declared.ArgMatches.TheViews.{out-ArgMatches}
use Rattle.clap.specs.Words.{subcommand_name_of}
use Rattle.clap.specs.declared.Error.{Error}
use Rattle.clap.specs.declared.error.ErrorKind.{ErrorKind}
use Rattle.clap.specs.declared.error.ErrorKind.TheVariants as kind
use Rattle.clap.specs.declared.builder.ValueParser.TheVariants as parser
use Rattle.dnsv_commands.specs.declared.command_line.CommandLineError.{CommandLineError}
use Rattle.dnsv_commands.specs.declared.command_line.CommandLineError.TheVariants as line
use Rattle.dnsv_commands.specs.declared.request.Request.{Request}
use Rattle.dnsv_commands.proofs.CommandLineLemmas.Rows.{AreRowsIn}
use Rattle.dnsv_commands.proofs.CommandLineLemmas.Values.{check_values, list_values, program_shape, show_values, sub_shapes, timeline_values}
use Rattle.dnsv_commands.proofs.CommandLineLemmas.Walks.{AllLeaveValues, level_in}
use Rattle.clap.proofs.ValueTestLemmas.{accepts-Accepts}
use Rattle.dnsv_questions.specs.Subcommand.{question_word}
use Rattle.dnsv_commands.specs.Commands.{program_app}
use Rattle.dnsv_commands.specs.CommandLine.{Asks, AsksForAllOfRange, AsksForTwoLists, GoesByBoth, HasCapture, HasCheckValues, HasListValues, HasTimelineValues, IsAccepted, IsFlag, IsRefused, IsUnclear, IsUndated, error_of_kind, flag_said, command_line_error, is_asked, number_said}
use Rattle.std.specs.Option.{SomeIff}
use Rattle.dnsv_questions.specs.Moment.{IsMoment}

-- a text that passed the bounds of a number reads as the number that it says
pub number_reads : (last : ℕ) (E : Type 0) (G : List ℕ → Result ℕ E → Type 0) (text : Text) (r : Option ℕ) → ReadsOne G text r
    → ((u : List ℕ) (x : Result ℕ E) → G u x → ParsesUnsigned 64 10 u x)
    → is_unsigned_in 0 last text ≡ true
    → (n : ℕ) × (r ≡ Some n) × (n ≤ last) × (number_said last text ≡ Some n)
number_reads last E G text (Some n) read only passed =
    let within = accepts-Accepts false (parser.Unsigned 0 last) text passed in
    let parsed = only text (Ok n) read in
    (n, refl, rw parsed.1 within.3, rw (passed, parsed.1) refl)
number_reads last E G text None read only passed =
    let within = accepts-Accepts false (parser.Unsigned 0 last) text passed in
    absurd (only text (Err read.0) read.1 (within.0, within.1))

-- what `Moment::new` makes of a number within the bounds
pub made : (o : Option ℕ) (n : ℕ) → SomeIff o (IsMoment n) n → IsMoment n → o ≡ Some n
made None n refused fits = absurd (refused fits)
made (Some m) n gives fits = ap (λ k. Some k) gives.1

pub is_made : (o : Option ℕ) (n : ℕ) → SomeIff o (IsMoment n) n → IsMoment n → is_some o ≡ true
is_made o n gives fits = ap is_some (made o n gives fits)

pub same_moment : (o : Option ℕ) (n m : ℕ) → SomeIff o (IsMoment n) n → IsMoment n → o ≡ Some m → Path (Option ℕ) (Some n) (Some m)
same_moment o n m gives fits is = sym (made o n gives fits) ∙ is

-- ---- the subcommand

no_subcommand : (wants help argument : Bool) → wants ≡ true → check_kinds help wants argument ≡ [] → ⊥
no_subcommand true true argument is e = cc
no_subcommand true false argument is e = cc
no_subcommand false help argument is e = cc

-- the subcommand was entered, with rows that have no fault
abbrev Enters : Option (Text × List Row) → Shape → Type 0
Enters met sub = (rows : List Row) × (met ≡ Some (sub.name, rows)) × AreRowsIn sub.rules rows × (check_fault sub rows false ≡ [])

-- one of the subcommands was
abbrev EntersOneOf : Option (Text × List Row) → List Shape → Type 0
EntersOneOf met [] = ⊥
EntersOneOf met (sub ∷ subs) = Enters met sub ⊎ EntersOneOf met subs

abbrev EachLeavesValues : List Shape → Type 0
EachLeavesValues [] = Unit {0}
EachLeavesValues (sub ∷ subs) = AllLeaveValues sub × EachLeavesValues subs

abbrev sub_named : List Shape → Text → Option Shape
sub_named subs word = find (λ s. answers_to word (label_of s)) subs

-- the subcommand that is found has no fault
found_sub : (subs : List Shape) (p : Text × List Text) → EachLeavesValues subs
    → option_map_or (λ s. level_fault s [] nothing_held p.1 false []) (sub_named subs p.0) [] ≡ []
    → is_some (option_map (λ s. rows_at s p.1) (sub_named subs p.0)) ≡ true
    → EntersOneOf (option_map (λ s. rows_at s p.1) (sub_named subs p.0)) subs
found_sub [] p leaves fault some = cc
found_sub (sub ∷ subs) p leaves fault some =
    go (answers_to p.0 (label_of sub)) fault some (λ none has. found_sub subs p leaves.1 none has)
  where
    go : (t : Bool) → option_map_or (λ s. level_fault s [] nothing_held p.1 false []) (cond t (Some sub) (sub_named subs p.0)) [] ≡ []
        → is_some (option_map (λ s. rows_at s p.1) (cond t (Some sub) (sub_named subs p.0))) ≡ true
        → (option_map_or (λ s. level_fault s [] nothing_held p.1 false []) (sub_named subs p.0) [] ≡ []
        → is_some (option_map (λ s. rows_at s p.1) (sub_named subs p.0)) ≡ true
        → EntersOneOf (option_map (λ s. rows_at s p.1) (sub_named subs p.0)) subs)
        → EntersOneOf (option_map (λ s. rows_at s p.1) (cond t (Some sub) (sub_named subs p.0))) (sub ∷ subs)
    go true none has rest =
        let below = level_in sub [] p.1 false [] leaves.0 none in
        inl (rows_after sub.rules [] p.1, refl, below.1, below.2)
    go false none has rest = inr (rest none has)

-- the subcommand at which a walk stopped has no fault
at_stop : (top : Shape) (subs : List Shape) (stop : Option (Text × List Text)) → EachLeavesValues subs
    → entered_fault (record { top = top; subs = subs }) stop ≡ [] → is_some (entered (record { top = top; subs = subs }) stop) ≡ true
    → EntersOneOf (entered (record { top = top; subs = subs }) stop) subs
at_stop top subs None leaves fault some = cc
at_stop top subs (Some p) leaves fault some = found_sub subs p leaves fault some

was_entered : (top : Shape) (rows : List Row) (t : Bool) → top.subcommand_required ≡ true → check_fault top rows t ≡ [] → t ≡ true
was_entered top rows true wanted fault = refl
was_entered top rows false wanted fault = absurd (no_subcommand top.subcommand_required
    (top.arg_required_else_help && not (list_any (λ r. explicit_source r.source) rows))
    (not (top.subcommand_negates_reqs && false) && list_any (λ a. a.required && not (is_given a.id rows)) top.rules)
    wanted fault)

-- where a program that wants one of its subcommands has no fault, one was entered, and has no fault
pub one_entered : (top : Shape) (subs : List Shape) (words : List Text) → AllLeaveValues top → EachLeavesValues subs → top.subcommand_required ≡ true
    → built_fault (record { top = top; subs = subs }) nothing_held words ≡ []
    → EntersOneOf (entered (record { top = top; subs = subs }) (stop_after top.rules (names_of (record { top = top; subs = subs })) words)) subs
one_entered top subs words top_leaves leaves wanted e =
    let names = names_of (record { top = top; subs = subs }) in
    let stop = stop_after top.rules names words in
    let down = level_in top names words (is_some (entered (record { top = top; subs = subs }) stop)) (entered_fault (record { top = top; subs = subs }) stop) top_leaves e in
    at_stop top subs stop leaves down.0 (was_entered top (rows_after top.rules names words) (is_some (entered (record { top = top; subs = subs }) stop)) wanted down.2)

-- ---- what the words are taken for

-- what a flag's text says is what the matches give
pub flag_read : (text : Option Text) (given : Bool) → IsFlag text → (text ≡ None → given ≡ false) → (text ≡ Some (codes "true") → given ≡ true)
    → (text ≡ Some (codes "false") → given ≡ false) → flag_said text ≡ given
flag_read text given (inl is) none some other = ap flag_said is ∙ sym (none is)
flag_read text given (inr (inl is)) none some other = ap flag_said is ∙ sym (some is)
flag_read text given (inr (inr is)) none some other = ap flag_said is ∙ sym (other is)

-- a name and rows are those of one of the subcommands, with its values
abbrev pub IsCommand : Text → List Row → Type 0
IsCommand name rows = ((name ≡ codes "show") × HasCapture rows)
    ⊎ ((name ≡ codes "list") × HasListValues rows)
    ⊎ ((why : Bool) × (name ≡ question_word why) × HasCheckValues rows)
    ⊎ ((name ≡ codes "timeline") × HasTimelineValues rows)

-- whatever the program takes is a subcommand with its values
pub taken : (words : List Text) → fault_of program_app words ≡ []
    → (name : Text) × (rows : List Row) × (subcommand_of program_app words ≡ Some (name, rows)) × IsCommand name rows
taken words none =
    of (one_entered program_shape sub_shapes (argument_words program_app words) refl (refl, (refl, (refl, (refl, (refl, tt))))) refl none)
  where
    of : EntersOneOf (subcommand_of program_app words) sub_shapes
        → (name : Text) × (rows : List Row) × (subcommand_of program_app words ≡ Some (name, rows)) × IsCommand name rows
    of (inl show) = (codes "show", show.0, show.1, inl (refl, show_values show.0 show.2 show.3))
    of (inr (inl list)) = (codes "list", list.0, list.1, inr (inl (refl, list_values list.0 list.2 list.3)))
    of (inr (inr (inl check))) = (codes "check", check.0, check.1, inr (inr (inl (false, refl, check_values false check.0 check.2 check.3))))
    of (inr (inr (inr (inl explain)))) = (codes "explain", explain.0, explain.1, inr (inr (inl (true, refl, check_values true explain.0 explain.2 explain.3))))
    of (inr (inr (inr (inr (inl timeline))))) = (codes "timeline", timeline.0, timeline.1, inr (inr (inr (refl, timeline_values timeline.0 timeline.2 timeline.3))))
    of (inr (inr (inr (inr (inr none))))) = absurd none

-- an error of `clap` at the words, as the program tells it
pub refused_as : (words : List Text) (e : Error) → HasKind (fault_of program_app words) e → IsRefused words (command_line_error e)
refused_as words e has = go (kind_of e) refl
  where
    among : (k : ErrorKind) → kind_of e ≡ k → (k ≡ kind.OutOfMemory → ⊥) → HasKind (fault_of program_app words) e → IsAmong (kind_of e) (fault_of program_app words)
    among k is other (inl memory) = absurd (other (sym is ∙ memory))
    among k is other (inr at) = at

    go : (k : ErrorKind) → kind_of e ≡ k → IsRefused words (error_of_kind k e)
    go kind.OutOfMemory is = tt
    go kind.DisplayHelp is = (ap is_asked is, among kind.DisplayHelp is (λ bad. cc) has)
    go kind.DisplayVersion is = (ap is_asked is, among kind.DisplayVersion is (λ bad. cc) has)
    go k is = (ap is_asked is, among k is (λ bad. cc) has)

-- `?` passes an error of `clap` up as the program tells it
pub passed_up : {T : Type 0} (r : Result T CommandLineError) (a : App) (words : List Text) (e : Error) → a ≡ program_app
    → IsErrAnd r (λ error. error ≡ command_line_error e)
    → (is_simple_and_free a ≡ true → HasKind (fault_of a words) e) → IfErr r (IsRefused words)
passed_up (Ok x) a words e is passed kinds = absurd passed
passed_up (Err error) a words e is passed kinds =
    let has = subst (λ (b : App). HasKind (fault_of b words) e) is (kinds (ap is_simple_and_free is)) in
    subst (IsRefused words) (sym passed) (refused_as words e has)

-- what a subcommand asks for, the words do
pub asked_as : (r : Result Request CommandLineError) (words : List Text) (name : Text) (rows : List Row) → fault_of program_app words ≡ []
    → subcommand_of program_app words ≡ Some (name, rows) → IfOk r (Asks name rows) → IfOk r (IsAccepted words)
asked_as (Ok request) words name rows none met asks = (none, (name, rows, met, asks))
asked_as (Err error) words name rows none met asks = tt

pub unclear_as : (r : Result Request CommandLineError) (words : List Text) (why : Bool) (rows : List Row) → fault_of program_app words ≡ []
    → subcommand_of program_app words ≡ Some (question_word why, rows)
    → IfErr r (λ error. (error ≡ line.OutOfMemory) ⊎ ((error ≡ line.Unclear) × IsUnclear rows) ⊎ ((error ≡ line.BothKnown) × GoesByBoth rows))
    → IfErr r (IsRefused words)
unclear_as (Ok request) words why rows none met told = tt
unclear_as (Err error) words why rows none met (inl memory) = subst (IsRefused words) (sym memory) tt
unclear_as (Err error) words why rows none met (inr (inl unclear)) = subst (IsRefused words) (sym unclear.0) (why, (none, (rows, met, unclear.1)))
unclear_as (Err error) words why rows none met (inr (inr both)) = subst (IsRefused words) (sym both.0) (inr (why, (none, (rows, met, both.1))))

pub no_list_as : (r : Result Request CommandLineError) (words : List Text) (rows : List Row) → fault_of program_app words ≡ []
    → subcommand_of program_app words ≡ Some (codes "list", rows)
    → IfErr r (λ error. (error ≡ line.OutOfMemory) ⊎ ((error ≡ line.Undated) × IsUndated rows) ⊎ ((error ≡ line.TwoLists) × AsksForTwoLists rows)
    ⊎ ((error ≡ line.AllOfRange) × AsksForAllOfRange rows))
    → IfErr r (IsRefused words)
no_list_as (Ok request) words rows none met told = tt
no_list_as (Err error) words rows none met (inl memory) = subst (IsRefused words) (sym memory) tt
no_list_as (Err error) words rows none met (inr (inl undated)) = subst (IsRefused words) (sym undated.0) (none, (rows, met, undated.1))
no_list_as (Err error) words rows none met (inr (inr (inl two))) = subst (IsRefused words) (sym two.0) (none, (rows, met, two.1))
no_list_as (Err error) words rows none met (inr (inr (inr range))) = subst (IsRefused words) (sym range.0) (none, (rows, met, range.1))

pub no_timeline_as : (r : Result Request CommandLineError) (words : List Text) (rows : List Row) → fault_of program_app words ≡ []
    → subcommand_of program_app words ≡ Some (codes "timeline", rows)
    → IfErr r (λ error. (error ≡ line.OutOfMemory) ⊎ ((error ≡ line.BothKnown) × GoesByBoth rows)) → IfErr r (IsRefused words)
no_timeline_as (Ok request) words rows none met told = tt
no_timeline_as (Err error) words rows none met (inl memory) = subst (IsRefused words) (sym memory) tt
no_timeline_as (Err error) words rows none met (inr both) = subst (IsRefused words) (sym both.0) (inl (none, (rows, met, both.1)))

-- a subcommand of that name with these rows stands in the words, and has its values
pub record Sees (words : List Text) (name : Text) (rows : List Row) : Type 0 where
  pub none : fault_of program_app words ≡ []
  pub met : subcommand_of program_app words ≡ Some (name, rows)
  pub has : IsCommand name rows

-- what a caller sees of the subcommand
seen : {X : Type 0} (name : X → Text) (rows : X → List Row) (o : Option X) (x : X) (met : Option (Text × List Row)) (n : Text) (rs : List Row)
    → o ≡ Some x → option_map name o ≡ option_map (λ p. p.0) met → option_map rows o ≡ option_map (λ p. p.1) met → met ≡ Some (n, rs)
    → (n ≡ name x) × (rs ≡ rows x)
seen name rows o x met n rs is names same found =
    let name_is : Some (name x) ≡ Some n = ap (option_map name) (sym is) ∙ names ∙ ap (option_map (λ p. p.0)) found in
    let rows_are : Some (rows x) ≡ Some rs = ap (option_map rows) (sym is) ∙ same ∙ ap (option_map (λ p. p.1)) found in (
      ap (λ (r : Option Text). unwrap_or r (name x)) (sym name_is),
      ap (λ (r : Option (List Row)). unwrap_or r (rows x)) (sym rows_are),
    )

mapped_twice : {A B C : Type 0} (f : B → C) (g : A → B) (o : Option A) → option_map f (option_map g o) ≡ option_map (λ a. f (g a)) o
mapped_twice f g None = refl
mapped_twice f g (Some a) = refl

-- the matches of a parse by the program are those of a subcommand, with its values
pub sees : {X : Type 0} (name : X → Text) (rows : X → List Row) (o : Option X) (x : X) (a : App) (words : List Text) (m : ArgMatches)
    → a ≡ program_app → HasMatchesOf a words m → (is_simple_and_free a ≡ true → fault_of a words ≡ []) → o ≡ Some x
    → option_map name o ≡ subcommand_name_of m → option_map rows o ≡ option_map (λ p. p.1) (subcommand_rows_of m)
    → Sees words (name x) (rows x)
sees name rows o x a words m is matched kinds found names same = of (taken words none)
  where
    none : fault_of program_app words ≡ []
    none = subst (λ (b : App). fault_of b words ≡ []) is (kinds (ap is_simple_and_free is))

    met : subcommand_rows_of m ≡ subcommand_of program_app words
    met = (matched (ap is_simple is)).1 ∙ ap (λ (b : App). subcommand_of b words) is

    names_are : option_map name o ≡ option_map (λ p. p.0) (subcommand_rows_of m)
    names_are = names ∙ sym (mapped_twice _ _ (out-ArgMatches m).subcommand)

    of : (n : Text) × (rs : List Row) × (subcommand_of program_app words ≡ Some (n, rs)) × IsCommand n rs → Sees words (name x) (rows x)
    of entered =
        let at = seen name rows o x (subcommand_rows_of m) entered.0 entered.1 found names_are same (met ∙ entered.2) in
        record { none = none; met = entered.2 ∙ (λ i. Some (at.0 i, at.1 i)); has = subst (λ n. IsCommand n (rows x)) at.0 (subst (IsCommand entered.0) at.1 entered.3) }

-- names with other first letters
other_name : (a b : Text) → (slice_index a 0 ≡ slice_index b 0 → ⊥) → a ≡ b → ⊥
other_name a b differ same = differ (ap (λ t. slice_index t 0) same)

other_question : (why : Bool) (b : Text) → (slice_index (codes "check") 0 ≡ slice_index b 0 → ⊥)
    → (slice_index (codes "explain") 0 ≡ slice_index b 0 → ⊥) → question_word why ≡ b → ⊥
other_question false b check explain same = other_name (codes "check") b check same
other_question true b check explain same = other_name (codes "explain") b explain same

-- of a name with another first letter than the others it has the values of its own
pub is_show : {words : List Text} {name : Text} {rows : List Row} → Sees words name rows → name ≡ codes "show" → HasCapture rows
is_show {words} {name} {rows} at same = go at.has where
  go : IsCommand name rows → HasCapture rows
  go (inl show) = show.1
  go (inr (inl list)) = absurd (other_name (codes "list") (codes "show") (λ e. omega (arith, e)) (sym list.0 ∙ same))
  go (inr (inr (inl question))) = absurd (other_question question.0 (codes "show") (λ e. omega (arith, e)) (λ e. omega (arith, e)) (sym question.1 ∙ same))
  go (inr (inr (inr timeline))) = absurd (other_name (codes "timeline") (codes "show") (λ e. omega (arith, e)) (sym timeline.0 ∙ same))

pub is_list : {words : List Text} {name : Text} {rows : List Row} → Sees words name rows → name ≡ codes "list" → HasListValues rows
is_list {words} {name} {rows} at same = go at.has where
  go : IsCommand name rows → HasListValues rows
  go (inl show) = absurd (other_name (codes "show") (codes "list") (λ e. omega (arith, e)) (sym show.0 ∙ same))
  go (inr (inl list)) = list.1
  go (inr (inr (inl question))) = absurd (other_question question.0 (codes "list") (λ e. omega (arith, e)) (λ e. omega (arith, e)) (sym question.1 ∙ same))
  go (inr (inr (inr timeline))) = absurd (other_name (codes "timeline") (codes "list") (λ e. omega (arith, e)) (sym timeline.0 ∙ same))

pub is_timeline : {words : List Text} {name : Text} {rows : List Row} → Sees words name rows → name ≡ codes "timeline" → HasTimelineValues rows
is_timeline {words} {name} {rows} at same = go at.has where
  go : IsCommand name rows → HasTimelineValues rows
  go (inl show) = absurd (other_name (codes "show") (codes "timeline") (λ e. omega (arith, e)) (sym show.0 ∙ same))
  go (inr (inl list)) = absurd (other_name (codes "list") (codes "timeline") (λ e. omega (arith, e)) (sym list.0 ∙ same))
  go (inr (inr (inl question))) = absurd (other_question question.0 (codes "timeline") (λ e. omega (arith, e)) (λ e. omega (arith, e)) (sym question.1 ∙ same))
  go (inr (inr (inr timeline))) = timeline.1

-- a name that fails the test of another isn't that
not_named : (name other : Text) → bytes_eq name other ≡ false → name ≡ other → ⊥
not_named name other test same =
    let yes = (bytes_eq-Decides name other).1 same in
    let bad : true ≡ false = sym yes ∙ test in cc

-- whether it is the subcommand that says why
explains : (why : Bool) → bytes_eq (question_word why) (codes "explain") ≡ why
explains false = refl
explains true = refl

pub is_question : {words : List Text} {name : Text} {rows : List Row} → Sees words name rows → bytes_eq name (codes "show") ≡ false → bytes_eq name (codes "list") ≡ false
    → bytes_eq name (codes "timeline") ≡ false → (name ≡ question_word (bytes_eq name (codes "explain"))) × HasCheckValues rows
is_question {words} {name} {rows} at no_show no_list no_timeline = go at.has where
  go : IsCommand name rows → (name ≡ question_word (bytes_eq name (codes "explain"))) × HasCheckValues rows
  go (inl show) = absurd (not_named name (codes "show") no_show show.0)
  go (inr (inl list)) = absurd (not_named name (codes "list") no_list list.0)
  go (inr (inr (inl question))) =
      (question.1 ∙ ap question_word (sym (ap (λ n. bytes_eq n (codes "explain")) question.1 ∙ explains question.0)), question.2)
  go (inr (inr (inr timeline))) = absurd (not_named name (codes "timeline") no_timeline timeline.0)
