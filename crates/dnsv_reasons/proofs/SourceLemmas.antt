-- A zone has one list of sources.
use Rattle.std.proofs.Common.{◌≡◌, ◌<◌, ◌⊎◌, ℕ, zero, suc, inl, inr, ⊎_elim, List, [], ◌∷◌, Some, refl, sym, subst, ◌∙◌, arith}
use Rattle.std.specs.List.{slice_get}
use Rattle.std.specs.Prelude.{Contains}
use Rattle.dnsv_denial.specs.gathering.EvidenceWords.{Chain, GoesBefore}
use Rattle.dnsv_denial.proofs.lemmas.proving.ZoneChainLemmas.{no_circle}
use Rattle.dnsv_names.specs.Name.{Labels}
use Rattle.dnsv_gaps.specs.Asking.{Asking}
use Rattle.dnsv_gaps.specs.Sources.{AreSources}
use Rattle.dnsv_reasons.proofs.EachLemmas.{at_place}

abbrev pub IsOrdered : List Chain → Type 0
IsOrdered xs = (i j : ℕ) (first other : Chain) → slice_get xs i ≡ Some first → slice_get xs j ≡ Some other → i < j
    → GoesBefore first other

-- what stands in a list is its first, or comes behind that
first_or_behind : (y x : Chain) (ys : List Chain) → IsOrdered (y ∷ ys) → Contains (y ∷ ys) x → (y ≡ x) ⊎ GoesBefore y x
first_or_behind y x ys order (zero, within, is) = inl is
first_or_behind y x ys order (suc k, within, is) =
    inr (order 0 (suc k) y x refl (at_place ys x x k (omega (arith, within)) is) (omega arith))

in_front : (x : Chain) (xs : List Chain) → Contains (x ∷ xs) x
in_front x xs = (0, omega arith, refl)

behind : (x y : Chain) (xs : List Chain) → Contains xs y → Contains (x ∷ xs) y
behind x y xs (k, within, is) = (suc k, omega (arith, within), is)

pub no_self : (x : Chain) → GoesBefore x x → ⊥
no_self x before = no_circle x x x x before before refl refl

-- the same members, without the first of both
without : (x y c : Chain) (xs ys : List Chain) → x ≡ y → IsOrdered (x ∷ xs) → Contains xs c → Contains (y ∷ ys) c → Contains ys c
without x y c xs ys same order (k, within, is) (zero, inside, first) =
    let itself : x ≡ c = same ∙ first in
    let before : GoesBefore x c = order 0 (suc k) x c refl (at_place xs c c k within is) (omega arith) in
    absurd (no_self c (subst (λ (each : Chain). GoesBefore each c) itself before))
without x y c xs ys same order here (suc k, inside, is) = (k, omega (arith, inside), is)

pub tail : (x : Chain) (xs : List Chain) → IsOrdered (x ∷ xs) → IsOrdered xs
tail x xs order i j first other at_i at_j less = order (suc i) (suc j) first other at_i at_j (omega (arith, less))

one_order : (xs ys : List Chain) → IsOrdered xs → IsOrdered ys → ((c : Chain) → Contains xs c → Contains ys c)
    → ((c : Chain) → Contains ys c → Contains xs c) → xs ≡ ys
one_order [] [] first second to from = refl
one_order [] (y ∷ ys) first second to from = let member = from y (in_front y ys) in absurd (omega (arith, member.1))
one_order (x ∷ xs) [] first second to from = let member = to x (in_front x xs) in absurd (omega (arith, member.1))
one_order (x ∷ xs) (y ∷ ys) first second to from =
    let same : x ≡ y =
    ⊎_elim (λ (is : y ≡ x). sym is) (λ (yx : GoesBefore y x).
    ⊎_elim (λ (is : x ≡ y). is) (λ (xy : GoesBefore x y). absurd (no_circle y x x y yx xy refl refl))
    (first_or_behind x y xs first (from y (in_front y ys))))
    (first_or_behind y x ys second (to x (in_front x xs))) in
    let rest : xs ≡ ys =
    one_order xs ys (tail x xs first) (tail y ys second)
    (λ c member. without x y c xs ys same first member (to c (behind x c xs member)))
    (λ c member. without y x c ys xs (sym same) second member (from c (behind y c ys member))) in
    λ i. same i ∷ rest i

pub one_list : (a : Asking) (zone : Labels) (xs ys : List Chain) → AreSources a zone xs → AreSources a zone ys → xs ≡ ys
one_list a zone xs ys first second =
    one_order xs ys first.order second.order (λ c member. (second.members c).1 ((first.members c).0 member))
    (λ c member. (first.members c).1 ((second.members c).0 member))
