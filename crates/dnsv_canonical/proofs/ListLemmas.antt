-- Facts about each element of a list.
use Rattle.std.proofs.Common.{◌≡◌, ℕ, suc, ◌+◌, ◌<◌, Bool, true, false, cond, List, [], ◌∷◌, ◌++◌, length, get_or, take, map, append_assoc, refl, sym, ap, ◌∙◌, subst, arith}
use Rattle.std.proofs.lemmas.List.{map_more, get_or-map, length-map}
use Rattle.std.proofs.lemmas.List.Elements.{All-from_recursion, All-get_or}
use Rattle.std.specs.Prelude.{filter}
use Rattle.std.specs.Borrow.{Bor}
use Rattle.std.specs.List.{AllByRecursion, AllZip}

pub each_at : {X : Type 0} (P : X → Type 0) (xs : List X) (i : ℕ) (d : X) → AllByRecursion P xs → i < length xs → P (get_or xs i d)
each_at P xs i d each within = All-get_or P xs i d within (All-from_recursion P xs each)

-- the octets of a slice of slices at a place
pub each_borrowed : (P : List ℕ → Type 0) (slices : List (Bor (List ℕ))) (i : ℕ) (d : Bor (List ℕ)) → AllByRecursion P (map (λ r. r.now) slices) → i < length slices → P (get_or slices i d).now
each_borrowed P slices i d each within =
    subst P (get_or-map (λ (r : Bor (List ℕ)). r.now) slices i d d.now within)
    (each_at P (map (λ r. r.now) slices) i d.now each (omega (arith, within, length-map slices (λ (r : Bor (List ℕ)). r.now))))

pub each_front : {X : Type 0} (P : X → Type 0) (xs ys : List X) → AllByRecursion P (xs ++ ys) → AllByRecursion P xs
each_front P [] ys each = tt
each_front P (x ∷ xs) ys each = (each.0, each_front P xs ys each.1)

pub each_behind : {X : Type 0} (P : X → Type 0) (xs ys : List X) → AllByRecursion P (xs ++ ys) → AllByRecursion P ys
each_behind P [] ys each = each
each_behind P (x ∷ xs) ys each = each_behind P xs ys each.1

-- of elements of one kind, those that pass a test are of the other
pub each_chosen : {X : Type 0} (test : X → Bool) (P Q : X → Type 0) → ((x : X) → P x → test x ≡ true → Q x) → (xs : List X) → AllByRecursion P xs → AllByRecursion Q (filter test xs)
each_chosen test P Q leads [] each = tt
each_chosen test P Q leads (x ∷ xs) each = kept (test x) refl (each_chosen test P Q leads xs each.1) where
  kept : (passes : Bool) → test x ≡ passes → AllByRecursion Q (filter test xs) → AllByRecursion Q (cond passes (x ∷ filter test xs) (filter test xs))
  kept true is rest = (leads x each.0 is, rest)
  kept false is rest = rest

pub pairs_more : {A B : Type 0} (R : A → B → Type 0) (xs : List A) (ys : List B) (x : A) (y : B) → AllZip R xs ys → R x y → AllZip R (xs ++ x ∷ []) (ys ++ y ∷ [])
pairs_more R [] [] x y all here = (here, tt)
pairs_more R [] (z ∷ ys) x y all here = absurd all
pairs_more R (z ∷ xs) [] x y all here = absurd all
pairs_more R (w ∷ xs) (z ∷ ys) x y all here = (all.0, pairs_more R xs ys x y all.1 here)

-- one RDATA more is read
pub read_more : {T : Type 0} (R : List ℕ → T → Type 0) (slices : List (Bor (List ℕ))) (i : ℕ) (d : Bor (List ℕ)) (before after : List T) (value : T) → i < length slices → AllZip R (map (λ r. r.now) (take i slices)) before → R (get_or slices i d).now value
    → after ≡ before ++ value ∷ [] → AllZip R (map (λ r. r.now) (take (i + 1) slices)) after
read_more R slices i d before after value within so_far is pushed =
    subst (λ rdata. AllZip R rdata after) (sym (map_more (λ (r : Bor (List ℕ)). r.now) slices i d within))
    (subst (λ values. AllZip R (map (λ (r : Bor (List ℕ)). r.now) (take i slices) ++ (get_or slices i d).now ∷ []) values) (sym pushed)
    (pairs_more R (map (λ (r : Bor (List ℕ)). r.now) (take i slices)) before (get_or slices i d).now value so_far is))

-- ---- lists that are gone through by value

pub parts_more : {X : Type 0} (read left rest all : List X) (x : X) → left ≡ x ∷ rest → read ++ left ≡ all → (read ++ x ∷ []) ++ rest ≡ all
parts_more read left rest all x next parts = append_assoc read (x ∷ []) rest ∙ ap (λ list. read ++ list) (sym next) ∙ parts

pub size_more : {X : Type 0} (left rest : List X) (x : X) (size less : ℕ) → left ≡ x ∷ rest → less + 1 ≡ size → size ≡ length left → less ≡ length rest
size_more left rest x size less next one is = let longer : length left ≡ suc (length rest) = ap length next in omega (arith, one, is, longer)

pub none_left : {X : Type 0} (left : List X) (size : ℕ) → size ≡ 0 → size ≡ length left → left ≡ []
none_left [] size none is = refl
none_left (x ∷ left) size none is = absurd (omega (arith, none, is))

pub next_of : {X : Type 0} (P : X → Type 0) (read left rest all : List X) (x : X) → AllByRecursion P all → read ++ left ≡ all → left ≡ x ∷ rest → P x
next_of P read left rest all x each parts next =
    let of_left : AllByRecursion P (x ∷ rest) = subst (AllByRecursion P) next (each_behind P read left (subst (AllByRecursion P) (sym parts) each)) in
    of_left.0
