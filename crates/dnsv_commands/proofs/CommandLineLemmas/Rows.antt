-- What a use of an argument leaves, where it has no fault: a value that the argument takes.
use Rattle.std.proofs.Common.{◌≡◌, ◌⊎◌, ◌++◌, Bool, true, false, cond, List, [], ◌∷◌, Option, Some, None, refl, sym, subst, inl, inr}
use Rattle.std.specs.Prelude.{◌&&◌, ◌||◌, ⊤, nat_lt, find, length}
use Rattle.std.specs.Str.{bytes_eq}
use Rattle.clap.specs.Facts.{parser_of_value, unwrap_or_range}
use Rattle.clap.specs.Kinds.{Kinds, or_else, range_kinds}
use Rattle.clap.specs.Faults.{action_fault, set_fault, repeat_fault, use_fault, values_fault}
use Rattle.clap.specs.Takes.{value_passes}
use Rattle.clap.specs.Values.{is_request, refused_kind}
use Rattle.clap.specs.ValueTests.{accepts}
use Rattle.clap.specs.Walk.{Row, Rule, Text, action_of, more_values, most_values, reading_by, stronger, used, used_as, values_or_missing, with_values, without}
use Rattle.clap.specs.declared.builder.ArgAction.{ArgAction}
use Rattle.clap.specs.declared.builder.ArgAction.TheVariants as action
use Rattle.clap.specs.declared.error.ErrorKind.{ErrorKind}
use Rattle.clap.specs.declared.parser.matches.ValueSource.{ValueSource}
use Rattle.clap.specs.declared.parser.matches.ValueSource.TheVariants.{CommandLine}
use Rattle.clap.specs.declared.builder.value_parser.Reading.{Reading}

-- ---- faults

-- two steps without a fault
pub both_pass : (a b : Kinds) → or_else a b ≡ [] → (a ≡ []) × (b ≡ [])
both_pass [] b e = (refl, e)
both_pass (k ∷ ks) b e = cc

pub test_passed : (test : Bool) (k : ErrorKind) → cond test [] (k ∷ []) ≡ [] → test ≡ true
test_passed true k e = refl
test_passed false k e = cc

-- ---- rows

-- there is a first value, and the argument takes it
abbrev pub StartsPassing : Rule → List Text → Type 0
StartsPassing a [] = ⊥
StartsPassing a (v ∷ vs) = value_passes a v ≡ true

-- the row is the argument's, and has a value that it takes
abbrev pub IsRowOf : Rule → Row → Type 0
IsRowOf a r = (a.id ≡ r.id) × (r.reading ≡ reading_by a) × StartsPassing a r.values

-- the row is that of one of the arguments
abbrev pub IsRowIn : List Rule → Row → Type 0
IsRowIn [] r = ⊥
IsRowIn (a ∷ c) r = IsRowOf a r ⊎ IsRowIn c r

abbrev pub AreRowsIn : List Rule → List Row → Type 0
AreRowsIn c [] = ⊤
AreRowsIn c (r ∷ rs) = IsRowIn c r × AreRowsIn c rs

-- the argument is one of those
abbrev pub IsIn : List Rule → Rule → Type 0
IsIn [] a = ⊥
IsIn (b ∷ c) a = (b ≡ a) ⊎ IsIn c a

abbrev pub IsFoundIn : List Rule → Option Rule → Type 0
IsFoundIn c None = ⊤
IsFoundIn c (Some a) = IsIn c a

found_later : (b : Rule) (c : List Rule) (o : Option Rule) → IsFoundIn c o → IsFoundIn (b ∷ c) o
found_later b c None h = tt
found_later b c (Some a) h = inr h

pub found_in : (p : Rule → Bool) (c : List Rule) → IsFoundIn c (find p c)
found_in p [] = tt
found_in p (a ∷ c) = go (p a) (found_in p c)
  where
    go : (t : Bool) → IsFoundIn c (find p c) → IsFoundIn (a ∷ c) (cond t (Some a) (find p c))
    go true rest = inl refl
    go false rest = found_later a c (find p c) rest

row_in : (c : List Rule) (a : Rule) (r : Row) → IsIn c a → IsRowOf a r → IsRowIn c r
row_in [] a r at h = absurd at
row_in (b ∷ c) a r (inl same) h = inl (subst (λ (x : Rule). IsRowOf x r) (sym same) h)
row_in (b ∷ c) a r (inr at) h = inr (row_in c a r at h)

starts_more : (a : Rule) (xs vs : List Text) → StartsPassing a xs → StartsPassing a (xs ++ vs)
starts_more a [] vs h = absurd h
starts_more a (x ∷ xs) vs h = h

-- more values come behind those of the row
grown_in : (c : List Rule) (r : Row) (vs : List Text) (s : Option ValueSource) → IsRowIn c r
    → IsRowIn c (record r { values = r.values ++ vs; source = s })
grown_in [] r vs s h = absurd h
grown_in (a ∷ c) r vs s (inl h) = inl (h.0, h.1, starts_more a r.values vs h.2)
grown_in (a ∷ c) r vs s (inr h) = inr (grown_in c r vs s h)

without_in : (c : List Rule) (id : Text) (rows : List Row) → AreRowsIn c rows → AreRowsIn c (without id rows)
without_in c id [] all = tt
without_in c id (r ∷ rs) all = go (bytes_eq r.id id) (without_in c id rs all.1)
  where
    go : (t : Bool) → AreRowsIn c (without id rs) → AreRowsIn c (cond t ([] ++ rs) (r ∷ without id rs))
    go true rest = all.1
    go false rest = (all.0, rest)

with_values_in : (c : List Rule) (id : Text) (how : Reading) (s : ValueSource) (vs : List Text) (rows : List Row)
    → IsRowIn c (record { id = id; values = vs; count = None; source = Some s; reading = how })
    → AreRowsIn c rows → AreRowsIn c (with_values id how s vs rows)
with_values_in c id how s vs [] new all = (new, tt)
with_values_in c id how s vs (r ∷ rs) new all = go (bytes_eq r.id id) (with_values_in c id how s vs rs new all.1)
  where
    go : (t : Bool) → AreRowsIn c (with_values id how s vs rs) → AreRowsIn c (cond t (more_values s vs r ++ rs) (r ∷ with_values id how s vs rs))
    go true rest = (grown_in c r vs (Some (stronger r.source s)) all.0, all.1)
    go false rest = (all.0, rest)

-- values that an argument takes make a row of it
pub given_in : (c : List Rule) (a : Rule) (s : ValueSource) (vs : List Text) (rows : List Row) → IsIn c a → StartsPassing a vs
    → AreRowsIn c rows → AreRowsIn c (with_values a.id (reading_by a) s vs rows)
given_in c a s vs rows at starts all =
    with_values_in c a.id (reading_by a) s vs rows (row_in c a _ at (refl, refl, starts)) all

-- ---- uses

abbrev pub has_value : List Text → Bool
has_value [] = false
has_value (v ∷ vs) = true

-- a later use stands in place of an earlier one
abbrev pub sets : ArgAction → Bool
sets action.Append = false
sets action.Count = false
sets _ = true

-- a use of the argument ends the parse, or leaves a value: one has to be given, or a text stands for it
abbrev pub leaves_value : Rule → Bool
leaves_value a = is_request (action_of a)
    || (sets (action_of a) && (has_value a.missing || nat_lt 0 (unwrap_or_range a.range).start_inclusive))

pub starts_passing : (a : Rule) (vs : List Text) → has_value vs ≡ true → values_fault a vs ≡ [] → StartsPassing a vs
starts_passing a [] some e = cc
starts_passing a (v ∷ vs) some e =
    test_passed (accepts a.ignore_case (parser_of_value a.parser) v) (refused_kind (parser_of_value a.parser)) (both_pass _ _ e).0

set_in : (c : List Rule) (again : Bool) (a : Rule) (vs : List Text) (rows : List Row) → IsIn c a → has_value vs ≡ true
    → set_fault again a vs rows ≡ [] → AreRowsIn c rows
    → AreRowsIn c (with_values a.id (reading_by a) CommandLine vs (without a.id rows))
set_in c again a vs rows at some e all =
    given_in c a CommandLine vs (without a.id rows) at (starts_passing a vs some (both_pass (repeat_fault again a.id rows) (values_fault a vs) e).1) (without_in c a.id rows all)

action_in : (x : ArgAction) (c : List Rule) (again : Bool) (a : Rule) (vs : List Text) (rows : List Row) → sets x ≡ true → IsIn c a
    → has_value vs ≡ true → action_fault x again a vs rows ≡ [] → AreRowsIn c rows
    → AreRowsIn c (used_as x a.id (reading_by a) vs rows)
action_in action.Set c again a vs rows set at some e all = set_in c again a vs rows at some e all
action_in action.SetTrue c again a vs rows set at some e all = set_in c again a vs rows at some e all
action_in action.SetFalse c again a vs rows set at some e all = set_in c again a vs rows at some e all
action_in action.Append c again a vs rows set at some e all = cc
action_in action.Count c again a vs rows set at some e all = cc
action_in x c again a vs rows set at some e all = all

request_in : (x : ArgAction) (c : List Rule) (a : Rule) (vs : List Text) (rows : List Row) → is_request x ≡ true → AreRowsIn c rows
    → AreRowsIn c (used_as x a.id (reading_by a) vs rows)
request_in action.Help c a vs rows asks all = all
request_in action.HelpShort c a vs rows asks all = all
request_in action.HelpLong c a vs rows asks all = all
request_in action.Version c a vs rows asks all = all
request_in x c a vs rows asks all = cc

pub both_true : (a b : Bool) → (a && b) ≡ true → (a ≡ true) × (b ≡ true)
both_true true b e = (refl, e)
both_true false b e = cc

value_left : (a : Rule) (vs : List Text) → (has_value a.missing || nat_lt 0 (unwrap_or_range a.range).start_inclusive) ≡ true
    → range_kinds (unwrap_or_range a.range).start_inclusive (most_values a) (length vs) ≡ []
    → has_value (values_or_missing a vs) ≡ true
value_left a (v ∷ vs) leaves e = refl
value_left a [] leaves e = go (has_value a.missing) refl (nat_lt 0 (unwrap_or_range a.range).start_inclusive) refl
  where
    go : (t : Bool) → has_value a.missing ≡ t → (u : Bool) → nat_lt 0 (unwrap_or_range a.range).start_inclusive ≡ u → has_value a.missing ≡ true
    go true t u l = t
    go false t true l = let bad = rw l at e in cc
    go false t false l = let bad : false ≡ true = rw (t, l) at leaves in cc

-- a use without a fault leaves rows with values
pub used_in : (c : List Rule) (again : Bool) (a : Rule) (vs : List Text) (rows : List Row) → IsIn c a → leaves_value a ≡ true
    → use_fault again a vs rows ≡ [] → AreRowsIn c rows → AreRowsIn c (used a vs rows)
used_in c again a vs rows at leaves e all =
    go (is_request (action_of a)) refl
  where
    go : (t : Bool) → is_request (action_of a) ≡ t → AreRowsIn c (used a vs rows)
    go true t = request_in (action_of a) c a (values_or_missing a vs) rows t all
    go false t =
        let two = both_true (sets (action_of a)) (has_value a.missing || nat_lt 0 (unwrap_or_range a.range).start_inclusive) (rw t at leaves) in
        let passed = both_pass (range_kinds (unwrap_or_range a.range).start_inclusive (most_values a) (length vs)) (action_fault (action_of a) again a (values_or_missing a vs) rows) e in
        action_in (action_of a) c again a (values_or_missing a vs) rows two.0 at (value_left a vs two.1 passed.0) passed.1 all
