-- Values stand behind marks, some with a label before them: the words that are written determine the values.
use Rattle.std.proofs.Common.{◌≡◌, ℕ, Bool, true, false, not, List, [], ◌∷◌, ◌++◌, ◌||◌, ◌&&◌, Option, Some, None, refl, sym, ap, ◌∙◌, ◌==◌}
use Rattle.std.proofs.lemmas.Bool.{eq-eqb}

-- what may stand at a place: nothing; a value just where there is one at the place before; a value behind this label, or nothing
pub data Mark : Type 0 where
  Absent : Mark
  Bare : Mark
  Labelled : List ℕ → Mark

-- the words of one value
abbrev pub piece : Mark → Option (List ℕ) → List (List ℕ)
piece mark None = []
piece (Labelled label) (Some value) = label ∷ value ∷ []
piece mark (Some value) = value ∷ []

-- the words that are written
abbrev pub words : List Mark → List (Option (List ℕ)) → List (List ℕ)
words [] values = []
words (mark ∷ marks) [] = []
words (mark ∷ marks) (value ∷ values) = piece mark value ++ words marks values

-- the values stand as their marks have it, behind a value or not
abbrev pub stands : Bool → List Mark → List (Option (List ℕ)) → Bool
stands there [] [] = true
stands there [] (value ∷ values) = false
stands there (mark ∷ marks) [] = false
stands there (Absent ∷ marks) (None ∷ values) = stands there marks values
stands there (Absent ∷ marks) (Some value ∷ values) = false
stands true (Bare ∷ marks) (None ∷ values) = false
stands false (Bare ∷ marks) (None ∷ values) = stands false marks values
stands true (Bare ∷ marks) (Some value ∷ values) = stands true marks values
stands false (Bare ∷ marks) (Some value ∷ values) = false
stands there (Labelled label ∷ marks) (None ∷ values) = stands false marks values
stands there (Labelled label ∷ marks) (Some value ∷ values) = stands true marks values

-- the test of two words
abbrev pub same : List ℕ → List ℕ → Bool
same [] [] = true
same [] (y ∷ ys) = false
same (x ∷ xs) [] = false
same (x ∷ xs) (y ∷ ys) = (x == y) && same xs ys

-- the label is one of the marks'
abbrev pub has_label : List ℕ → List Mark → Bool
has_label label [] = false
has_label label (Absent ∷ marks) = has_label label marks
has_label label (Bare ∷ marks) = has_label label marks
has_label label (Labelled other ∷ marks) = same label other || has_label label marks

-- no two labels are the same
abbrev pub apart : List Mark → Bool
apart [] = true
apart (Absent ∷ marks) = apart marks
apart (Bare ∷ marks) = apart marks
apart (Labelled label ∷ marks) = not (has_label label marks) && apart marks

-- a word is the same as itself
same_refl : (a : List ℕ) → same a a ≡ true
same_refl [] = refl
same_refl (x ∷ xs) = ap (λ b. b && same xs xs) (eq-eqb x x refl) ∙ same_refl xs

-- what is known of tests
or_so : (a b : Bool) → b ≡ true → (a || b) ≡ true
or_so true b is = refl
or_so false b is = is

pub both_first : (a b : Bool) → (a && b) ≡ true → a ≡ true
both_first true b is = refl
both_first false b is = cc

pub both_then : (a b : Bool) → (a && b) ≡ true → b ≡ true
both_then true b is = is
both_then false b is = cc

-- where there is no value before, the first word is a label
first_label : (marks : List Mark) (values : List (Option (List ℕ))) (label : List ℕ) (rest : List (List ℕ))
    → stands false marks values ≡ true → words marks values ≡ label ∷ rest → has_label label marks ≡ true
first_label [] values label rest stand is = cc
first_label (mark ∷ marks) [] label rest stand is = cc
first_label (Absent ∷ marks) (None ∷ values) label rest stand is = first_label marks values label rest stand is
first_label (Absent ∷ marks) (Some value ∷ values) label rest stand is = cc
first_label (Bare ∷ marks) (None ∷ values) label rest stand is = first_label marks values label rest stand is
first_label (Bare ∷ marks) (Some value ∷ values) label rest stand is = cc
first_label (Labelled other ∷ marks) (None ∷ values) label rest stand is =
    or_so (same label other) (has_label label marks) (first_label marks values label rest stand is)
first_label (Labelled other ∷ marks) (Some value ∷ values) label rest stand is =
    let e : other ≡ label = cc in
    ap (λ a. same label a || has_label label marks) e ∙ ap (λ b. b || has_label label marks) (same_refl label)

-- a value behind a label is there, or isn't, on both sides
mislabelled : {X : Type 0} (marks : List Mark) (values : List (Option (List ℕ))) (label : List ℕ) (rest : List (List ℕ))
    → stands false marks values ≡ true → apart (Labelled label ∷ marks) ≡ true → words marks values ≡ label ∷ rest → X
mislabelled {X} marks values label rest stand apart is =
    let has : has_label label marks ≡ true = first_label marks values label rest stand is in
    let none : not (has_label label marks) ≡ true = both_first (not (has_label label marks)) _ apart in
    let contrary : not true ≡ true = ap not (sym has) ∙ none in
    cc

-- values that stand behind the same marks, and have the same words, are the same
pub same_values : (marks : List Mark) (there : Bool) (xs ys : List (Option (List ℕ))) → stands there marks xs ≡ true
    → stands there marks ys ≡ true → apart marks ≡ true → words marks xs ≡ words marks ys → xs ≡ ys
same_values [] there [] [] p q differ is = refl
same_values [] there [] (y ∷ ys) p q differ is = cc
same_values [] there (x ∷ xs) ys p q differ is = cc
same_values (mark ∷ marks) there [] ys p q differ is = cc
same_values (mark ∷ marks) there (x ∷ xs) [] p q differ is = cc
same_values (Absent ∷ marks) there (None ∷ xs) (None ∷ ys) p q differ is = ap (λ vs. None ∷ vs) (same_values marks there xs ys p q differ is)
same_values (Absent ∷ marks) there (Some x ∷ xs) (y ∷ ys) p q differ is = cc
same_values (Absent ∷ marks) there (None ∷ xs) (Some y ∷ ys) p q differ is = cc
same_values (Bare ∷ marks) true (None ∷ xs) (y ∷ ys) p q differ is = cc
same_values (Bare ∷ marks) true (Some x ∷ xs) (None ∷ ys) p q differ is = cc
same_values (Bare ∷ marks) true (Some x ∷ xs) (Some y ∷ ys) p q differ is =
    let rest : words marks xs ≡ words marks ys = cc in
    let more : xs ≡ ys = same_values marks true xs ys p q differ rest in cc
same_values (Bare ∷ marks) false (Some x ∷ xs) (y ∷ ys) p q differ is = cc
same_values (Bare ∷ marks) false (None ∷ xs) (Some y ∷ ys) p q differ is = cc
same_values (Bare ∷ marks) false (None ∷ xs) (None ∷ ys) p q differ is = ap (λ vs. None ∷ vs) (same_values marks false xs ys p q differ is)
same_values (Labelled label ∷ marks) there (None ∷ xs) (None ∷ ys) p q differ is =
    ap (λ vs. None ∷ vs) (same_values marks false xs ys p q (both_then (not (has_label label marks)) (apart marks) differ) is)
same_values (Labelled label ∷ marks) there (Some x ∷ xs) (Some y ∷ ys) p q differ is =
    let rest : words marks xs ≡ words marks ys = cc in
    let more : xs ≡ ys = same_values marks true xs ys p q (both_then (not (has_label label marks)) (apart marks) differ) rest in cc
same_values (Labelled label ∷ marks) there (None ∷ xs) (Some y ∷ ys) p q differ is =
    mislabelled marks xs label (y ∷ words marks ys) p differ is
same_values (Labelled label ∷ marks) there (Some x ∷ xs) (None ∷ ys) p q differ is =
    mislabelled marks ys label (x ∷ words marks xs) q differ (sym is)
