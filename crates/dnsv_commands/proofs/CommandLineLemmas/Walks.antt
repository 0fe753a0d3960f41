-- A parse without a fault leaves each argument that was given a value that it takes.
use Rattle.std.proofs.Common.{◌≡◌, ◌∙◌, ℕ, Bool, zero, suc, true, false, cond, List, [], ◌∷◌, Option, Some, None, is_some, drop, fold, refl, sym, ap, inl, inr, arith}
use Rattle.std.proofs.lemmas.Bool.{ne_eqb}
use Rattle.std.specs.Prelude.{◌&&◌, ◌||◌, ⊤, length, encode_utf8, slice_get}
use Rattle.std.specs.List.{list_all}
use Rattle.std.specs.Option.{option_map_or}
use Rattle.std.specs.Str.{bytes_eq, chars}
use Rattle.clap.specs.Lexer.{long_of, short_of}
use Rattle.clap.specs.Kinds.{Kinds, or_else, request_kinds}
use Rattle.clap.specs.Faults.{bundle_fault, bundle_step_fault, check_fault, default_fault, defaults_fault, flag_word_fault, flags_fault, given_default_fault, level_fault, long_fault, option_fault, other_fault, positional_fault, react_fault, settle_fault, short_fault, step_fault, stray_fault, turn_fault, use_fault, values_fault, walk_fault, word_fault}
use Rattle.clap.specs.Simple.{Shape}
use Rattle.clap.specs.Walk.{Held, Names, Outcome, Row, Rule, Step, Text, Waiting, Walk, action_of, after_flag, after_step, arg_by_id, arg_by_index, arg_by_long, arg_by_short, attached_value, bundle, bundle_met, bundle_step, default_rows, done, flag_met, has_row, idle, is_empty, is_pending, long_met, long_or_other, next, nothing_held, option, option_met, option_word, plain, plain_word, positional, pushed, reacted, reading_by, refused, rows_after, settled, settled_rows, short_met, short_or_plain, subcommand, subcommand_met, subcommand_or_other, takes_several, takes_values, to_positional, trailing, used_by_id, value, waits, walk, walk_from, walked, walked_from, with_default, word_met}
use Rattle.clap.specs.declared.error.ErrorKind.TheVariants as kind
use Rattle.clap.specs.declared.parser.matches.ValueSource.TheVariants.{DefaultValue}
use Rattle.dnsv_commands.proofs.CommandLineLemmas.Rows.{AreRowsIn, IsFoundIn, IsIn, both_pass, both_true, found_in, given_in, leaves_value, starts_passing, used_in}

-- each use of an argument leaves a value
abbrev pub AllLeaveValues : Shape → Type 0
AllLeaveValues s = list_all leaves_value s.rules ≡ true

pub leaves : (c : List Rule) (a : Rule) → list_all leaves_value c ≡ true → IsIn c a → leaves_value a ≡ true
leaves [] a good at = absurd at
leaves (b ∷ c) a good (inl same) = ap leaves_value (sym same) ∙ (both_true (leaves_value b) (list_all leaves_value c) good).0
leaves (b ∷ c) a good (inr at) = leaves c a (both_true (leaves_value b) (list_all leaves_value c) good).1 at

-- ---- one word

settled_in : (c : List Rule) (again : Bool) (pending : Option (Text × List Text)) (rows : List Row) → list_all leaves_value c ≡ true
    → option_map_or (λ p. option_map_or (λ a. use_fault again a p.1 rows) (arg_by_id c p.0) []) pending [] ≡ []
    → AreRowsIn c rows → AreRowsIn c (settled_rows c pending rows)
settled_in c again None rows good e all = all
settled_in c again (Some p) rows good e all = go (arg_by_id c p.0) (found_in _ c) e
  where
    go : (o : Option Rule) → IsFoundIn c o → option_map_or (λ a. use_fault again a p.1 rows) o [] ≡ [] → AreRowsIn c (used_by_id o p.1 rows)
    go None at fault = all
    go (Some a) at fault = used_in c again a p.1 rows at (leaves c a good at) fault all

held_in : (c : List Rule) (again : Bool) (h : Held) → list_all leaves_value c ≡ true → settle_fault c again h ≡ [] → AreRowsIn c h.rows
    → AreRowsIn c (settled c h).rows
held_in c again h good e all = settled_in c again h.pending h.rows good e all

reacted_in : (c : List Rule) (again : Bool) (a : Rule) (vs : List Text) (h : Held) → list_all leaves_value c ≡ true → IsIn c a
    → react_fault c again a vs h ≡ [] → AreRowsIn c h.rows → AreRowsIn c (reacted c a vs h).rows
reacted_in c again a vs h good at e all =
    let two = both_pass (settle_fault c again h) (use_fault again a vs (settled c h).rows) e in
    used_in c again a vs (settled c h).rows at (leaves c a good at) two.1 (held_in c again h good two.0 all)

option_in : (c : List Rule) (again : Bool) (a : Rule) (v : Option Text) (h : Held) → list_all leaves_value c ≡ true → IsIn c a
    → option_fault c again a v h ≡ [] → AreRowsIn c h.rows → AreRowsIn c (option_met c a v h).0.rows
option_in c again a (Some v) h good at e all = reacted_in c again a (v ∷ []) h good at e all
option_in c again a None h good at e all = held_in c again h good e all

flag_in : (c : List Rule) (again : Bool) (a : Rule) (v : Option Text) (h : Held) (k : Kinds) → list_all leaves_value c ≡ true → IsIn c a
    → cond (is_some v) k (react_fault c again a [] h) ≡ [] → AreRowsIn c h.rows → AreRowsIn c (flag_met c a v h).0.rows
flag_in c again a (Some v) h k good at e all = all
flag_in c again a None h k good at e all = reacted_in c again a [] h good at e all

long_in : (c : List Rule) (again : Bool) (o : Option Rule) (v : Option Text) (h : Held) → list_all leaves_value c ≡ true → IsFoundIn c o
    → long_fault c again o v h ≡ [] → AreRowsIn c h.rows → AreRowsIn c (long_met c o v h).0.rows
long_in c again None v h good at e all = all
long_in c again (Some a) v h good at e all = go (takes_values a) e
  where
    go : (t : Bool) → cond t (option_fault c again a v h) (cond (is_some v) (kind.TooManyValues ∷ []) (react_fault c again a [] h)) ≡ []
        → AreRowsIn c (cond t (option_met c a v h) (flag_met c a v h)).0.rows
    go true fault = option_in c again a v h good at fault all
    go false fault = flag_in c again a v h (kind.TooManyValues ∷ []) good at fault all

short_in : (c : List Rule) (again : Bool) (o : Option Rule) (rest : Text) (h : Held) (step : Held → Held × Outcome) (fault : Held → Kinds)
    → list_all leaves_value c ≡ true → IsFoundIn c o
    → ((k : Held) → fault k ≡ [] → AreRowsIn c k.rows → AreRowsIn c (step k).0.rows)
    → short_fault c again o rest h fault ≡ [] → AreRowsIn c h.rows → AreRowsIn c (short_met c o rest h step).0.rows
short_in c again None rest h step fault good at later e all = all
short_in c again (Some a) rest h step fault good at later e all = go (takes_values a) e
  where
    go : (t : Bool) → cond t (option_fault c again a (attached_value rest) h) (or_else (react_fault c again a [] h) (fault (reacted c a [] h))) ≡ []
        → AreRowsIn c (cond t (option_met c a (attached_value rest) h) (step (reacted c a [] h))).0.rows
    go true none = option_in c again a (attached_value rest) h good at none all
    go false none =
        let two = both_pass (react_fault c again a [] h) (fault (reacted c a [] h)) none in
        later (reacted c a [] h) two.1 (reacted_in c again a [] h good at two.0 all)

bundle_step_in : (c : List Rule) (again : Bool) (x : Option ℕ) (flags : Text) (skip : ℕ) (so_far : Outcome) (h : Held)
    (step : Text → ℕ → Outcome → Held → Held × Outcome) (fault : Text → ℕ → Held → Kinds)
    → list_all leaves_value c ≡ true
    → ((t : Text) (n : ℕ) (o : Outcome) (k : Held) → fault t n k ≡ [] → AreRowsIn c k.rows → AreRowsIn c (step t n o k).0.rows)
    → bundle_step_fault c again x flags skip h fault ≡ [] → AreRowsIn c h.rows → AreRowsIn c (bundle_step c x flags skip so_far h step).0.rows
bundle_step_in c again None flags skip so_far h step fault good later e all = all
bundle_step_in c again (Some x) flags zero so_far h step fault good later e all =
    let rest = drop (length (encode_utf8 x)) flags in
    short_in c again (arg_by_short c x) rest h (step rest 0 done) (fault rest 0) good (found_in _ c) (later rest 0 done) e all
bundle_step_in c again (Some x) flags (suc skip) so_far h step fault good later e all =
    later (drop (length (encode_utf8 x)) flags) skip so_far h e all

bundle_in : (c : List Rule) (again : Bool) (k : ℕ) (flags : Text) (skip : ℕ) (so_far : Outcome) (h : Held) → list_all leaves_value c ≡ true
    → flags_fault c again k flags skip h ≡ [] → AreRowsIn c h.rows → AreRowsIn c (bundle_met c k flags skip so_far h).0.rows
unfolding bundle_met flags_fault
bundle_in c again zero flags skip so_far h good e all = all
bundle_in c again (suc k) flags skip so_far h good e all =
    bundle_step_in c again (slice_get (chars flags) 0) flags skip so_far h (bundle_met c k) (flags_fault c again k) good
    (λ t n o x fault rows. bundle_in c again k t n o x good fault rows) e all

option_word_in : (c : List Rule) (o : Option Rule) (id word : Text) (h : Held) → AreRowsIn c h.rows → AreRowsIn c (option_word o id word h).0.rows
option_word_in c None id word h all = all
option_word_in c (Some a) id word h all = all

plain_in : (c : List Rule) (waiting : Waiting) (word : Text) (h : Held) → AreRowsIn c h.rows → AreRowsIn c (plain_word c waiting word h).0.rows
plain_in c idle word h all = all
plain_in c positional word h all = all
plain_in c (option id) word h all = option_word_in c (arg_by_id c id) id word h all

after_in : (c : List Rule) (waiting : Waiting) (word : Text) (h : Held) (o : Outcome) → AreRowsIn c h.rows
    → AreRowsIn c (after_flag c waiting word h o).0.rows
after_in c waiting word h done all = all
after_in c waiting word h (waits id) all = all
after_in c waiting word h plain all = plain_in c waiting word h all
after_in c waiting word h refused all = plain_in c waiting word h all

short_word_in : (c : List Rule) (again : Bool) (waiting : Waiting) (word : Text) (flags : Option Text) (h : Held) → list_all leaves_value c ≡ true
    → option_map_or (λ f. bundle_fault c again f h) flags [] ≡ [] → AreRowsIn c h.rows
    → AreRowsIn c (short_or_plain c waiting word flags h).0.rows
short_word_in c again waiting word None h good e all = plain_in c waiting word h all
short_word_in c again waiting word (Some flags) h good e all =
    after_in c waiting word (bundle c flags h).0 (bundle c flags h).1
    (bundle_in c again (length flags) flags h.skip plain (record h { skip = 0 }) good e all)

flag_word_in : (c : List Rule) (again : Bool) (waiting : Waiting) (word : Text) (p : Option (Text × Option Text)) (h : Held) → list_all leaves_value c ≡ true
    → flag_word_fault c again p word h ≡ [] → AreRowsIn c h.rows → AreRowsIn c (long_or_other c waiting word p h).0.rows
flag_word_in c again waiting word None h good e all = short_word_in c again waiting word (short_of word) h good e all
flag_word_in c again waiting word (Some p) h good e all =
    after_in c waiting word (long_met c (arg_by_long c p.0) p.1 h).0 (long_met c (arg_by_long c p.0) p.1 h).1
    (long_in c again (arg_by_long c p.0) p.1 h good (found_in _ c) e all)

other_in : (s : Shape) (o : Option Text) (waiting : Waiting) (position : ℕ) (word : Text) (h : Held) → AllLeaveValues s
    → other_fault s o word h ≡ [] → AreRowsIn s.rules h.rows → AreRowsIn s.rules (subcommand_or_other s.rules o waiting position word h).0.rows
other_in s (Some name) waiting position word h good e all = all
other_in s None waiting position word h good e all = go (bytes_eq word (45 ∷ 45 ∷ [])) e
  where
    go : (t : Bool) → cond t [] (flag_word_fault s.rules s.args_override_self (long_of word) word h) ≡ []
        → AreRowsIn s.rules (cond t (h, trailing position) (long_or_other s.rules waiting word (long_of word) h)).0.rows
    go true fault = all
    go false fault = flag_word_in s.rules s.args_override_self waiting word (long_of word) h good fault all

word_in : (s : Shape) (names : Names) (behind : Bool) (waiting : Waiting) (position : ℕ) (word : Text) (h : Held) → AllLeaveValues s
    → word_fault s names behind waiting word h ≡ [] → AreRowsIn s.rules h.rows
    → AreRowsIn s.rules (word_met s.rules names behind waiting position word h).0.rows
word_in s names true waiting position word h good e all = all
word_in s names false waiting position word h good e all =
    other_in s (subcommand_met names waiting word) waiting position word h good e all

positional_in : (c : List Rule) (again : Bool) (o : Option Rule) (k : Kinds) (word : Text) (w : Walk) (h : Held) → list_all leaves_value c ≡ true
    → option_map_or (λ a. positional_fault c again a h) o k ≡ [] → AreRowsIn c h.rows → AreRowsIn c (to_positional c o word w h).held.rows
positional_in c again None k word w h good e all = all
positional_in c again (Some a) k word w h good e all = go (is_pending a h.pending && takes_several a) e
  where
    go : (t : Bool) → cond t [] (settle_fault c again h) ≡ [] → AreRowsIn c (pushed a.id word (cond t h (settled c h))).rows
    go true fault = all
    go false fault = held_in c again h good fault all

step_in : (s : Shape) (word : Text) (w : Walk) (h : Held) (step : Step) → AllLeaveValues s → step_fault s w.position h step ≡ []
    → AreRowsIn s.rules h.rows → AreRowsIn s.rules (after_step s.rules word w h step).held.rows
step_in s word w h (next waiting) good e all = all
step_in s word w h (trailing position) good e all = all
step_in s word w h (subcommand name) good e all = all
step_in s word w h value good e all =
    positional_in s.rules s.args_override_self (arg_by_index s.rules w.position) (stray_fault s) word w h good e all

-- ---- all the words

turn_in : (s : Shape) (names : Names) (w : Walk) (word : Text) → AllLeaveValues s → turn_fault s names w word ≡ []
    → AreRowsIn s.rules w.held.rows → AreRowsIn s.rules (walked s.rules names w word).held.rows
unfolding walked
turn_in s names w word good e all = go w.stopped e
  where
    go : (o : Option (Text × List Text))
        → (let met = word_met s.rules names w.is_trailing w.waiting w.position word w.held in
        cond (is_some o) [] (or_else (word_fault s names w.is_trailing w.waiting word w.held) (step_fault s w.position met.0 met.1))) ≡ []
        → AreRowsIn s.rules (walked_from s.rules names o w word).held.rows
    go (Some p) fault = all
    go None fault =
        let met = word_met s.rules names w.is_trailing w.waiting w.position word w.held in
        let two = both_pass (word_fault s names w.is_trailing w.waiting word w.held) (step_fault s w.position met.0 met.1) fault in
        step_in s word w met.0 met.1 good two.1 (word_in s names w.is_trailing w.waiting w.position word w.held good two.0 all)

walk_in : (s : Shape) (names : Names) (w : Walk) (words : List Text) → AllLeaveValues s → walk_fault s names w words ≡ []
    → AreRowsIn s.rules w.held.rows → AreRowsIn s.rules (fold (walked s.rules names) w words).held.rows
unfolding walk_fault
walk_in s names w [] good e all = all
walk_in s names w (word ∷ rest) good e all =
    let two = both_pass (turn_fault s names w word) (walk_fault s names (walked s.rules names w word) rest) e in
    walk_in s names (walked s.rules names w word) rest good two.1 (turn_in s names w word good two.0 all)

default_in : (c : List Rule) (a : Rule) (ds : List Text) (rows : List Row) → IsIn c a
    → given_default_fault a ds ≡ [] → AreRowsIn c rows → AreRowsIn c (default_rows a.id (reading_by a) ds rows)
default_in c a [] rows at e all = all
default_in c a (v ∷ vs) rows at e all =
    given_in c a DefaultValue (v ∷ vs) rows at (starts_passing a (v ∷ vs) refl (both_pass (request_kinds (action_of a)) (values_fault a (v ∷ vs)) e).1) all

with_default_in : (c : List Rule) (a : Rule) (rows : List Row) → IsIn c a → default_fault rows a ≡ [] → AreRowsIn c rows
    → AreRowsIn c (with_default rows a)
with_default_in c a rows at e all = go (has_row a.id rows) a.defaults e
  where
    go : (t : Bool) (ds : List Text) → cond (t || is_empty ds) [] (given_default_fault a ds) ≡ []
        → AreRowsIn c (cond t rows (default_rows a.id (reading_by a) ds rows))
    go true ds fault = all
    go false [] fault = all
    go false (v ∷ vs) fault =
        let some : is_empty (v ∷ vs) ≡ false = ne_eqb _ _ (λ none. omega arith) in
        default_in c a (v ∷ vs) rows at (rw some at fault) all

-- each of these arguments is one of c
abbrev AreIn : List Rule → List Rule → Type 0
AreIn c [] = ⊤
AreIn c (a ∷ rest) = IsIn c a × AreIn c rest

are_in_more : (b : Rule) (c d : List Rule) → AreIn c d → AreIn (b ∷ c) d
are_in_more b c [] h = tt
are_in_more b c (a ∷ d) h = (inr h.0, are_in_more b c d h.1)

all_in : (c : List Rule) → AreIn c c
all_in [] = tt
all_in (a ∷ c) = (inl refl, are_in_more a c c (all_in c))

defaults_in : (c d : List Rule) (rows : List Row) → AreIn c d → defaults_fault rows d ≡ [] → AreRowsIn c rows → AreRowsIn c (fold with_default rows d)
unfolding defaults_fault
defaults_in c [] rows at e all = all
defaults_in c (a ∷ d) rows at e all =
    let two = both_pass (default_fault rows a) (defaults_fault (with_default rows a) d) e in
    defaults_in c d (with_default rows a) at.1 two.1 (with_default_in c a rows at.0 two.0 all)

-- ---- one level

-- a level without a fault: none below, rows with values, and what is required is there
pub level_in : (s : Shape) (names : Names) (words : List Text) (entered_one : Bool) (below : Kinds) → AllLeaveValues s
    → level_fault s names nothing_held words entered_one below ≡ []
    → (below ≡ []) × AreRowsIn s.rules (rows_after s.rules names words) × (check_fault s (rows_after s.rules names words) entered_one ≡ [])
level_in s names words entered_one below good e =
    let end = (walk s.rules names nothing_held words).held in
    let walked_ok = both_pass (walk_fault s names (walk_from nothing_held) words) _ e in
    let below_ok = both_pass below _ walked_ok.1 in
    let settle_ok = both_pass (settle_fault s.rules s.args_override_self end) _ below_ok.1 in
    let default_ok = both_pass (defaults_fault (settled s.rules end).rows s.rules) _ settle_ok.1 in
    let at_end = walk_in s names (walk_from nothing_held) words good walked_ok.0 tt in
    let settled_ok = held_in s.rules s.args_override_self end good settle_ok.0 at_end in
    (below_ok.0, defaults_in s.rules s.rules (settled s.rules end).rows (all_in s.rules) default_ok.0 settled_ok, default_ok.1)
