-- Answers that are an option, and lists that may be empty.
use Rattle.std.proofs.Common.{◌≡◌, ◌<◌, ◌≤◌, ℕ, Bool, true, false, not, List, [], ◌∷◌, length, get_or, refl, sym, ◌∙◌, subst, ⊎_elim, arith}
use Rattle.std.proofs.lemmas.Bool.{cases_lt, false≢true}
use Rattle.std.proofs.lemmas.Bool.Decides.{Decides-eqb}
use Rattle.std.proofs.lemmas.List.{get_or_default}
use Rattle.std.proofs.lemmas.Map.Keys.{below_from_sorted, sorted_from_strictly_increasing}
use Rattle.std.specs.List.{Contains}
use Rattle.std.specs.List.Sorted.{IsStrictlyIncreasing}
use Rattle.std.specs.Prelude.{IsTrue, ◌==◌, ◌↔◌}

is_empty : (xs : List ℕ) (b : Bool) → b ≡ (length xs == 0) → b ≡ true → length xs ≡ 0
is_empty xs b is so = (Decides-eqb (length xs) 0).0 (sym is ∙ so)

pub none_there : (xs : List ℕ) (b : Bool) → b ≡ (length xs == 0) → b ≡ true → (s : ℕ) → ¬ Contains xs s
none_there xs b is so s there = let within = there.1 in let size = is_empty xs b is so in absurd (omega (arith, within, size))

pub some_there : (xs : List ℕ) (b : Bool) → b ≡ (length xs == 0) → not b ≡ true → (s : ℕ) × Contains xs s
some_there [] true is so = absurd (false≢true so)
some_there [] false is so = absurd (false≢true is)
some_there (x ∷ xs) b is so = (x, (0, omega arith, refl))

pub not_none : (xs : List ℕ) (b : Bool) (s : ℕ) → b ≡ (length xs == 0) → Contains xs s → not b ≡ true
not_none xs true s is there = absurd (none_there xs true is refl s there)
not_none xs false s is there = refl

pub long : (xs : List ℕ) (b : Bool) → b ≡ (length xs == 0) → b ≡ false → 0 < length xs
long [] b is isnt = absurd (false≢true (sym isnt ∙ is))
long (x ∷ xs) b is isnt = omega arith

-- the first of rising numbers is the lowest
pub first_lowest : (xs : List ℕ) (d s : ℕ) → IsStrictlyIncreasing xs → Contains xs s → get_or xs 0 d ≤ s
first_lowest xs d s rising there =
    let at : get_or xs there.0 d ≡ s = get_or_default xs there.0 d s there.1 ∙ there.2 in
    ⊎_elim
    (λ (later : 0 < there.0).
    let below = below_from_sorted xs 0 there.0 d (sorted_from_strictly_increasing xs rising) later there.1 in
    let most : get_or xs 0 d ≤ s = omega (arith, below, at) in most)
    (λ (here : there.0 ≤ 0).
    let zero : there.0 ≡ 0 = omega (arith, here) in
    let At : ℕ → Type 0 = λ p. get_or xs p d ≡ s in
    let first : get_or xs 0 d ≡ s = subst At zero at in
    let most : get_or xs 0 d ≤ s = omega (arith, first) in most)
    (cases_lt 0 there.0)

-- ---- tests

pub not_so : (b : Bool) (P : Type 0) → (IsTrue b ↔ P) → not b ≡ true → ¬ P
not_so true P test is = absurd (false≢true is)
not_so false P test is = λ p. false≢true (test.1 p)

pub so_not : (b : Bool) (P : Type 0) → (IsTrue b ↔ P) → ¬ P → not b ≡ true
so_not true P test never = absurd (never (test.0 refl))
so_not false P test never = refl
