-- Elements by their numbers, from 1 on.
use Rattle.std.proofs.Common.{◌≡◌, ◌<◌, ◌≤◌, ◌+◌, ◌-◌, ℕ, List, Some, length, get_or, sym, ap, subst, arith, ◌∙◌}
use Rattle.std.proofs.lemmas.Option.{get_or_from_slice_get, slice_get-get_or, slice_get_within}
use Rattle.std.specs.List.{Contains, slice_get}
use Rattle.dnsv_canonical.specs.Rrsets.{IsNumbered}

-- what has a number is a member
pub among : {X : Type 0} (xs : List X) (number : ℕ) (x : X) → IsNumbered xs number x → Contains xs x
among xs number x numbered =
    (number - 1, slice_get_within xs (number - 1) x numbered.1, get_or_from_slice_get xs (number - 1) x x numbered.1)

-- what stands at a place has the number behind it
pub numbered_at : {X : Type 0} (all xs : List X) (i : ℕ) (x : X) → xs ≡ all → i < length xs → x ≡ get_or xs i x
    → IsNumbered all (i + 1) x
numbered_at {X = X} all xs i x same within at =
    let place : i + 1 - 1 ≡ i = omega arith in
    let found : slice_get xs i ≡ Some x = slice_get-get_or xs i x within ∙ ap (λ y. Some y) (sym at) in
    let There : List X → Type 0 = λ each. slice_get each i ≡ Some x in
    (omega arith, ap (λ (p : ℕ). slice_get all p) place ∙ subst There same found)

-- as many as there are
pub all_passed : {X : Type 0} (all xs : List X) (n : ℕ) → xs ≡ all → length xs ≤ n → length all ≤ n
all_passed {X = X} all xs n same past = let Past : List X → Type 0 = λ each. length each ≤ n in subst Past same past

-- the same list under another name
pub in_list : {X : Type 0} (all xs : List X) (number : ℕ) (x : X) → xs ≡ all → IsNumbered xs number x → IsNumbered all number x
in_list {X = X} all xs number x same is = let In : List X → Type 0 = λ each. IsNumbered each number x in subst In same is
