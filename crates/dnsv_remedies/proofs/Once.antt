-- Each line is told once.
use Rattle.std.proofs.Common.{◌≡◌, ◌⊎◌, inl, inr, ⊎_elim, ℕ, zero, suc, ◌++◌, ◌||◌, Bool, true, false, not, if◌then◌else◌, List, [], ◌∷◌, Option, Some, length, map, refl, sym, ap, ◌∙◌, subst, slice_get}
use Rattle.std.proofs.lemmas.Bool.{false≢true}
use Rattle.std.specs.List.{AllByRecursion, list_any}
use Rattle.dnsv_mending.specs.Mend.{is_none}
use Rattle.dnsv_mending.specs.Ways.{IsAmong}
use Rattle.dnsv_mending.proofs.AllWays.{all_append, among_at, at_end, none_some}
use Rattle.dnsv_mending.proofs.DearLines.{or_true, or_true_second}
use Rattle.dnsv_remedies.specs.Question.{all_lines, dname_line, is_below_dname, is_said, lines_told, no_anchor, once, once_from, reasons_from, with_line, with_reason}
use Rattle.dnsv_remedies.specs.Reasons.{BeginsWith, HasReason, IsNowhereTwice}
use Rattle.dnsv_remedies.specs.Remedy.{Remedied}
use Rattle.dnsv_remedies.specs.Said.{is_reason}
use Rattle.dnsv_remedies.specs.Same.{is_same}
use Rattle.dnsv_remedies.specs.declared.facts.question.DnameFacts.{DnameFacts}
use Rattle.dnsv_remedies.specs.declared.facts.question.QuestionFacts.{QuestionFacts}
use Rattle.dnsv_remedies.specs.declared.said.Said.{Said}
use Rattle.dnsv_remedies.proofs.SameLines.{itself, same}
use Rattle.dnsv_remedies.proofs.Told.{any_first, any_second}

-- ---- no line twice

said_among : (lines : List Said) (line : Said) → IsAmong line lines → is_said lines line ≡ true
said_among [] line among = absurd among
said_among (x ∷ xs) line among = ⊎_elim
    (λ (e : line ≡ x). or_true (is_same line x) (list_any (is_same line) xs) (ap (is_same line) (sym e) ∙ itself line))
    (λ (e : IsAmong line xs). or_true_second (is_same line x) (list_any (is_same line) xs) (said_among xs line e)) among

not_said : (lines : List Said) (line x : Said) (i : ℕ) → is_said lines line ≡ false → slice_get lines i ≡ Some x → x ≡ line → ⊥
not_said lines line x i h at is = false≢true (sym h ∙ said_among lines line (among_at lines i line (at ∙ ap Some is)))

line_once : (lines : List Said) (line : Said) (t : Bool) → is_said lines line ≡ t → IsNowhereTwice lines
    → IsNowhereTwice (if t then lines else lines ++ line ∷ [])
line_once lines line true e once_before = once_before
line_once lines line false e once_before = λ i j x at_i at_j.
    ⊎_elim (λ (a : slice_get lines i ≡ Some x). ⊎_elim
    (λ (b : slice_get lines j ≡ Some x). once_before i j x a b)
    (λ (b : (j ≡ length lines) × (x ≡ line)). absurd (not_said lines line x i e a b.1)) (at_end lines line j x at_j))
    (λ (a : (i ≡ length lines) × (x ≡ line)). ⊎_elim
    (λ (b : slice_get lines j ≡ Some x). absurd (not_said lines line x j e b a.1))
    (λ (b : (j ≡ length lines) × (x ≡ line)). a.0 ∙ sym b.0) (at_end lines line j x at_j)) (at_end lines line i x at_i)

once_lines : (lines before : List Said) → IsNowhereTwice before → IsNowhereTwice (once_from before lines)
once_lines [] before h = h
once_lines (line ∷ lines) before h = once_lines lines (with_line before line) (line_once before line (is_said before line) refl h)

reason_once : (before : List Said) (line : Said) (t : Bool) → IsNowhereTwice before → IsNowhereTwice (if t then with_line before line else before)
reason_once before line true h = line_once before line (is_said before line) refl h
reason_once before line false h = h

reasons_once : (lines before : List Said) → IsNowhereTwice before → IsNowhereTwice (reasons_from before lines)
reasons_once [] before h = h
reasons_once (line ∷ lines) before h = reasons_once lines (with_reason before line) (reason_once before line (is_reason line) h)

one_line : (x : Said) → IsNowhereTwice (x ∷ [])
one_line x zero zero line a b = refl
one_line x zero (suc j) line a b = absurd (none_some line b)
one_line x (suc i) j line a b = absurd (none_some line a)

told_once : (q : QuestionFacts) (lines : List Said) (t : Bool) → IsNowhereTwice (if t then once lines else reasons_from (no_anchor q ∷ []) lines)
told_once q lines true = once_lines lines [] (λ i j line a b. absurd (none_some line a))
told_once q lines false = reasons_once lines (no_anchor q ∷ []) (one_line (no_anchor q))

pub nowhere_twice : (q : QuestionFacts) (m : Option Remedied) → IsNowhereTwice (lines_told q m)
nowhere_twice q m = told_once q (all_lines q m) q.is_anchored

-- ---- each line, and no other

among_first : (xs ys : List Said) (x : Said) → IsAmong x xs → IsAmong x (xs ++ ys)
among_first [] ys x among = absurd among
among_first (y ∷ xs) ys x among = ⊎_elim (λ (e : x ≡ y). inl e) (λ (e : IsAmong x xs). inr (among_first xs ys x e)) among

among_last : (xs : List Said) (x : Said) → IsAmong x (xs ++ x ∷ [])
among_last [] x = inl refl
among_last (y ∷ xs) x = inr (among_last xs x)

among_either : (xs : List Said) (x y : Said) → IsAmong x (xs ++ y ∷ []) → IsAmong x xs ⊎ (x ≡ y)
among_either [] x y among = ⊎_elim (λ (e : x ≡ y). inr e) (λ (none : ⊥). absurd none) among
among_either (z ∷ xs) x y among = ⊎_elim (λ (e : x ≡ z). inl (inl e))
    (λ (e : IsAmong x (xs ++ y ∷ [])). ⊎_elim (λ (a : IsAmong x xs). inl (inr a)) (λ (a : x ≡ y). inr a) (among_either xs x y e)) among

said_case : (xs : List Said) (line x : Said) (t : Bool) → is_same line x ≡ t → (t || list_any (is_same line) xs) ≡ true
    → (list_any (is_same line) xs ≡ true → IsAmong line xs) → (line ≡ x) ⊎ IsAmong line xs
said_case xs line x true e h rest = inl (same line x e)
said_case xs line x false e h rest = inr (rest h)

among_said : (lines : List Said) (line : Said) → is_said lines line ≡ true → IsAmong line lines
among_said [] line h = absurd (false≢true h)
among_said (x ∷ xs) line h = said_case xs line x (is_same line x) refl h (among_said xs line)

kept_line : (before : List Said) (line x : Said) (t : Bool) → IsAmong x before → IsAmong x (if t then before else before ++ line ∷ [])
kept_line before line x true among = among
kept_line before line x false among = among_first before (line ∷ []) x among

kept_lines : (lines before : List Said) (x : Said) → IsAmong x before → IsAmong x (once_from before lines)
kept_lines [] before x among = among
kept_lines (line ∷ lines) before x among = kept_lines lines (with_line before line) x (kept_line before line x (is_said before line) among)

added_line : (before : List Said) (line : Said) (t : Bool) → is_said before line ≡ t → IsAmong line (if t then before else before ++ line ∷ [])
added_line before line true e = among_said before line e
added_line before line false e = among_last before line

pub each_once : (lines before : List Said) (x : Said) → IsAmong x lines → IsAmong x (once_from before lines)
each_once [] before x among = absurd among
each_once (line ∷ lines) before x among = ⊎_elim
    (λ (e : x ≡ line). subst (λ y. IsAmong y (once_from (with_line before line) lines)) (sym e)
    (kept_lines lines (with_line before line) line (added_line before line (is_said before line) refl)))
    (λ (e : IsAmong x lines). each_once lines (with_line before line) x e) among

only_line : (before : List Said) (line x : Said) (t : Bool) → IsAmong x (if t then before else before ++ line ∷ []) → IsAmong x before ⊎ (x ≡ line)
only_line before line x true among = inl among
only_line before line x false among = among_either before x line among

pub only_once : (lines before : List Said) (x : Said) → IsAmong x (once_from before lines) → IsAmong x before ⊎ IsAmong x lines
only_once [] before x among = inl among
only_once (line ∷ lines) before x among = ⊎_elim
    (λ (a : IsAmong x (with_line before line)). ⊎_elim (λ (b : IsAmong x before). inl b) (λ (b : x ≡ line). inr (inl b))
    (only_line before line x (is_said before line) a))
    (λ (a : IsAmong x lines). inr (inr a)) (only_once lines (with_line before line) x among)

anchored_lines : (q : QuestionFacts) (lines : List Said) (t : Bool) → t ≡ true → once lines ≡ (if t then once lines else reasons_from (no_anchor q ∷ []) lines)
anchored_lines q lines true h = refl
anchored_lines q lines false h = absurd (false≢true h)

pub each_told : (q : QuestionFacts) (m : Option Remedied) (line : Said) → q.is_anchored ≡ true → IsAmong line (all_lines q m) → IsAmong line (lines_told q m)
each_told q m line h among = subst (IsAmong line) (anchored_lines q (all_lines q m) q.is_anchored h) (each_once (all_lines q m) [] line among)

pub only_told : (q : QuestionFacts) (m : Option Remedied) (line : Said) → q.is_anchored ≡ true → IsAmong line (lines_told q m) → IsAmong line (all_lines q m)
only_told q m line h among = ⊎_elim (λ (none : ⊥). absurd none) (λ (a : IsAmong line (all_lines q m)). a)
    (only_once (all_lines q m) [] line (subst (IsAmong line) (sym (anchored_lines q (all_lines q m) q.is_anchored h)) among))

-- ---- reasons

pub record Reason (lines : List Said) : Type 0 where
  line : Said
  among : IsAmong line lines
  is : is_reason line ≡ true

reason_case : (x : Said) (xs : List Said) (t : Bool) → is_reason x ≡ t → (t || list_any is_reason xs) ≡ true
    → (list_any is_reason xs ≡ true → Reason xs) → Reason (x ∷ xs)
reason_case x xs true e h rest = record { line = x; among = inl refl; is = e }
reason_case x xs false e h rest =
    let found = rest h in
    record { line = found.line; among = inr found.among; is = found.is }

reason_of : (lines : List Said) → list_any is_reason lines ≡ true → Reason lines
reason_of [] h = absurd (false≢true h)
reason_of (x ∷ xs) h = reason_case x xs (is_reason x) refl h (reason_of xs)

reason_among : (lines : List Said) (line : Said) → IsAmong line lines → is_reason line ≡ true → list_any is_reason lines ≡ true
reason_among [] line among is = absurd among
reason_among (x ∷ xs) line among is = ⊎_elim
    (λ (e : line ≡ x). or_true (is_reason x) (list_any is_reason xs) (ap is_reason (sym e) ∙ is))
    (λ (e : IsAmong line xs). or_true_second (is_reason x) (list_any is_reason xs) (reason_among xs line e is)) among

dname_reason : (ds : List DnameFacts) → is_none ds ≡ false → list_any is_reason (map dname_line ds) ≡ true
unfolding dname_line
dname_reason [] h = absurd (false≢true (sym h))
dname_reason (d ∷ ds) h = refl

pub not_false : (b : Bool) → not b ≡ true → b ≡ false
not_false true h = absurd (false≢true h)
not_false false h = refl

pub all_reason : (q : QuestionFacts) (m : Remedied) → HasReason m ⊎ (is_below_dname q ≡ true) → list_any is_reason (all_lines q (Some m)) ≡ true
all_reason q m h =
    let dnames = map dname_line q.dnames.items in
    ⊎_elim (λ (r : HasReason m). ⊎_elim
    (λ (c : list_any is_reason m.chain ≡ true). any_first (m.chain ++ dnames) m.own (any_first m.chain dnames c))
    (λ (o : list_any is_reason m.own ≡ true). any_second (m.chain ++ dnames) m.own o) r)
    (λ (d : is_below_dname q ≡ true). any_first (m.chain ++ dnames) m.own (any_second m.chain dnames
    (dname_reason q.dnames.items (not_false (is_none q.dnames.items) d)))) h

pub told_reason : (q : QuestionFacts) (m : Remedied) → q.is_anchored ≡ true → HasReason m ⊎ (is_below_dname q ≡ true)
    → list_any is_reason (lines_told q (Some m)) ≡ true
told_reason q m h r =
    let found = reason_of (all_lines q (Some m)) (all_reason q m r) in
    reason_among (lines_told q (Some m)) found.line (each_told q (Some m) found.line h found.among) found.is

-- ---- without an anchor

line_begins : (x : Said) (before : List Said) (line : Said) (t : Bool) → BeginsWith x before → BeginsWith x (if t then before else before ++ line ∷ [])
line_begins x before line true b = b
line_begins x before line false b = record { rest = b.rest ++ line ∷ []; is = ap (λ xs. xs ++ line ∷ []) b.is }

reason_begins : (x : Said) (before : List Said) (line : Said) (t : Bool) → BeginsWith x before → BeginsWith x (if t then with_line before line else before)
reason_begins x before line true b = line_begins x before line (is_said before line) b
reason_begins x before line false b = b

reasons_begin : (x : Said) (lines before : List Said) → BeginsWith x before → BeginsWith x (reasons_from before lines)
reasons_begin x [] before b = b
reasons_begin x (line ∷ lines) before b = reasons_begin x lines (with_reason before line) (reason_begins x before line (is_reason line) b)

abbrev IsReason : Said → Type 0
IsReason line = is_reason line ≡ true

line_reasons : (before : List Said) (line : Said) (t : Bool) → is_reason line ≡ true → AllByRecursion IsReason before
    → AllByRecursion IsReason (if t then before else before ++ line ∷ [])
line_reasons before line true is all = all
line_reasons before line false is all = all_append IsReason before (line ∷ []) all (is, tt)

reason_reasons : (before : List Said) (line : Said) (t : Bool) → is_reason line ≡ t → AllByRecursion IsReason before
    → AllByRecursion IsReason (if t then with_line before line else before)
reason_reasons before line true e all = line_reasons before line (is_said before line) e all
reason_reasons before line false e all = all

reasons_alone : (lines before : List Said) → AllByRecursion IsReason before → AllByRecursion IsReason (reasons_from before lines)
reasons_alone [] before all = all
reasons_alone (line ∷ lines) before all = reasons_alone lines (with_reason before line) (reason_reasons before line (is_reason line) refl all)

unanchored_case : (q : QuestionFacts) (lines : List Said) (t : Bool) → t ≡ false
    → BeginsWith (no_anchor q) (if t then once lines else reasons_from (no_anchor q ∷ []) lines)
unanchored_case q lines true h = absurd (false≢true (sym h))
unanchored_case q lines false h = reasons_begin (no_anchor q) lines (no_anchor q ∷ []) (record { rest = []; is = refl })

pub unanchored_first : (q : QuestionFacts) (m : Option Remedied) → q.is_anchored ≡ false → BeginsWith (no_anchor q) (lines_told q m)
unanchored_first q m h = unanchored_case q (all_lines q m) q.is_anchored h

reasons_case : (q : QuestionFacts) (lines : List Said) (t : Bool) → t ≡ false
    → AllByRecursion IsReason (if t then once lines else reasons_from (no_anchor q ∷ []) lines)
reasons_case q lines true h = absurd (false≢true (sym h))
reasons_case q lines false h = reasons_alone lines (no_anchor q ∷ []) (refl, tt)

pub unanchored_reasons : (q : QuestionFacts) (m : Option Remedied) → q.is_anchored ≡ false → AllByRecursion (λ line. is_reason line ≡ true) (lines_told q m)
unanchored_reasons q m h = reasons_case q (all_lines q m) q.is_anchored h
