-- Lists of ways, and loops over them.
use Rattle.std.proofs.Common.{◌≡◌, ℕ, ◌+◌, ◌<◌, ◌++◌, ◌||◌, Bool, true, false, List, [], ◌∷◌, Option, Some, drop, take, map, length, get_or, refl, sym, ap, ◌∙◌, add-one, flat_map}
use Rattle.std.proofs.Math.Seq.{drop-cons}
use Rattle.std.proofs.lemmas.List.{map-append, take_more}
use Rattle.std.specs.List.{list_any}
use Rattle.dnsv_mending.specs.Mend.{Mended, cheapest_from}
use Rattle.dnsv_mending.proofs.Lists as mending
use Rattle.dnsv_remedies.specs.Question.{once_from, reasons_from, with_line, with_reason}
use Rattle.dnsv_remedies.specs.Remedy.{Remedied, better, least_from}
use Rattle.dnsv_remedies.specs.declared.said.Said.{Said}

-- one list of ways after the other
pub least-append : (xs ys : List Remedied) (best : Option Remedied) → least_from best (xs ++ ys) ≡ least_from (least_from best xs) ys
least-append [] ys best = refl
least-append (x ∷ xs) ys best = least-append xs ys (Some (better best x))

pub offered_both : (xs ys : List Remedied) (old between new : Option Remedied) → between ≡ least_from old xs → new ≡ least_from between ys
    → new ≡ least_from old (xs ++ ys)
offered_both xs ys old between new first second = second ∙ ap (λ b. least_from b ys) first ∙ sym (least-append xs ys old)

pub next : {X : Type 0} (xs : List X) (i : ℕ) (d : X) → i < length xs → drop i xs ≡ get_or xs i d ∷ drop (i + 1) xs
next xs i d below = rw (add-one, drop-cons xs i d)

-- what a loop adds by its next element
pub offered_next : {X : Type 0} (f : X → List Remedied) (xs : List X) (i : ℕ) (x d : X) (old new whole : Option Remedied)
    → i < length xs → x ≡ get_or xs i d → new ≡ least_from old (f x) → least_from old (flat_map f (drop i xs)) ≡ whole
    → least_from new (flat_map f (drop (i + 1) xs)) ≡ whole
offered_next f xs i x d old new whole below is offers before =
    let rest = drop (i + 1) xs in
    ap (λ b. least_from b (flat_map f rest)) offers ∙ sym (least-append (f x) (flat_map f rest) old)
    ∙ ap (λ y. least_from old (f y ++ flat_map f rest)) is ∙ sym (ap (λ ys. least_from old (flat_map f ys)) (next xs i d below)) ∙ before

-- the same of what has to be mended of zones and RRsets
pub kept_next : {X : Type 0} (f : X → List Mended) (xs : List X) (i : ℕ) (x d : X) (old new whole : Option Mended)
    → i < length xs → x ≡ get_or xs i d → new ≡ cheapest_from old (f x) → cheapest_from old (flat_map f (drop i xs)) ≡ whole
    → cheapest_from new (flat_map f (drop (i + 1) xs)) ≡ whole
kept_next = mending.offered_next

-- what a loop makes of its next element
pub made_next : {A B : Type 0} (f : B → A) (made : List A) (xs : List B) (i : ℕ) (a : A) (x d : B)
    → i < length xs → x ≡ get_or xs i d → a ≡ f x → made ≡ map f (take i xs) → made ++ a ∷ [] ≡ map f (take (i + 1) xs)
made_next f made xs i a x d below is same before =
    ap (λ ys. ys ++ a ∷ []) before ∙ ap (λ y. map f (take i xs) ++ y ∷ []) (same ∙ ap f is)
    ∙ sym (map-append f (take i xs) (get_or xs i d ∷ [])) ∙ sym (ap (map f) (take_more xs i d below))

-- what is told by the next line
pub once_next : (lines : List Said) (i : ℕ) (line d : Said) (old new whole : List Said) → i < length lines → line ≡ get_or lines i d
    → new ≡ with_line old line → once_from old (drop i lines) ≡ whole → once_from new (drop (i + 1) lines) ≡ whole
once_next lines i line d old new whole below is same before =
    let rest = drop (i + 1) lines in
    ap (λ b. once_from b rest) (same ∙ ap (with_line old) is) ∙ sym (ap (once_from old) (next lines i d below)) ∙ before

pub reasons_next : (lines : List Said) (i : ℕ) (line d : Said) (old new whole : List Said) → i < length lines → line ≡ get_or lines i d
    → new ≡ with_reason old line → reasons_from old (drop i lines) ≡ whole → reasons_from new (drop (i + 1) lines) ≡ whole
reasons_next lines i line d old new whole below is same before =
    let rest = drop (i + 1) lines in
    ap (λ b. reasons_from b rest) (same ∙ ap (with_reason old) is) ∙ sym (ap (reasons_from old) (next lines i d below)) ∙ before

-- one of a list passes: the next one, or one behind it
pub any_next : {X : Type 0} (test : X → Bool) (xs : List X) (i : ℕ) (x d : X) (t whole : Bool) → i < length xs → x ≡ get_or xs i d → t ≡ test x
    → list_any test (drop i xs) ≡ whole → (t || list_any test (drop (i + 1) xs)) ≡ whole
any_next test xs i x d t whole below is same before =
    let rest = drop (i + 1) xs in
    ap (λ b. b || list_any test rest) (same ∙ ap test is) ∙ sym (ap (list_any test) (next xs i d below)) ∙ before

pub any_none : {X : Type 0} (test : X → Bool) (xs : List X) (i : ℕ) (x d : X) (t whole : Bool) → i < length xs → x ≡ get_or xs i d → t ≡ test x
    → t ≡ false → list_any test (drop i xs) ≡ whole → list_any test (drop (i + 1) xs) ≡ whole
any_none test xs i x d t whole below is same fails before =
    ap (λ b. b || list_any test (drop (i + 1) xs)) (sym fails) ∙ any_next test xs i x d t whole below is same before

pub any_some : {X : Type 0} (test : X → Bool) (xs : List X) (i : ℕ) (x d : X) (t whole : Bool) → i < length xs → x ≡ get_or xs i d → t ≡ test x
    → t ≡ true → list_any test (drop i xs) ≡ whole → true ≡ whole
any_some test xs i x d t whole below is same holds before =
    ap (λ b. b || list_any test (drop (i + 1) xs)) (sym holds) ∙ any_next test xs i x d t whole below is same before
