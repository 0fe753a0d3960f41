-- Answers of small functions: negations, and lists that may be empty.
use Rattle.std.proofs.Common.{◌≡◌, ◌≢◌, ◌↔◌, ◌==◌, ℕ, Bool, true, false, not, List, [], ◌∷◌, length, get_or, IsTrue, refl, sym, ◌∙◌, arith}
use Rattle.std.proofs.lemmas.Bool.{false≢true}
use Rattle.std.proofs.lemmas.Bool.Decides.{Decides-eqb}
use Rattle.std.proofs.lemmas.List.{nil_from_length}
use Rattle.std.specs.List.{AllZip}
use Rattle.std.specs.Prelude.{Contains, MatchOption, Option, None, Some, is_some}
use Rattle.dnsv_records.specs.Rrsig.{IsRrsig}
use Rattle.dnsv_records.specs.declared.rrsig.Rrsig.{Rrsig}

pub not_so : (b : Bool) (P : Type 0) → (IsTrue b ↔ P) → not b ≡ true → ¬ P
not_so true P test is = absurd (false≢true is)
not_so false P test is = λ p. false≢true (test.1 p)

pub so_not : (b : Bool) (P : Type 0) → (IsTrue b ↔ P) → ¬ P → not b ≡ true
so_not true P test never = absurd (never (test.0 refl))
so_not false P test never = refl

-- ---- a list that may be empty

pub none_in : {X : Type 0} (xs : List X) (b : Bool) → b ≡ (length xs == 0) → b ≡ true → xs ≡ []
none_in xs b is so = nil_from_length xs ((Decides-eqb (length xs) 0).0 (sym is ∙ so))

pub nothing_there : {X : Type 0} (xs : List X) → xs ≡ [] → (x : X) → ¬ Contains xs x
nothing_there [] none x there = let within = there.1 in absurd (omega (arith, within))
nothing_there (y ∷ ys) none x there = cc

pub some_in : {X : Type 0} (xs : List X) (b : Bool) → b ≡ (length xs == 0) → b ≡ false → (x : X) × Contains xs x
some_in [] b is so = absurd (false≢true (sym so ∙ is))
some_in (x ∷ xs) b is so = (x, (0, omega arith, refl))

-- it has a member just where it isn't empty
pub has_some : {X : Type 0} (xs : List X) (b : Bool) → b ≡ (length xs == 0) → IsTrue (not b) ↔ ((x : X) × Contains xs x)
has_some xs true is = (λ so. absurd (false≢true so), λ has. absurd (nothing_there xs (none_in xs true is refl) has.0 has.1))
has_some xs false is = (λ so. some_in xs false is refl, λ has. refl)

pub first_in : (xs : List ℕ) (b : Bool) → b ≡ (length xs == 0) → b ≡ false → (rest : List ℕ) × (xs ≡ get_or xs 0 0 ∷ rest)
first_in [] b is so = absurd (false≢true (sym so ∙ is))
first_in (x ∷ xs) b is so = (xs, refl)

pub not_none : {X : Type 0} (xs : List X) (b : Bool) → b ≡ (length xs == 0) → b ≡ false → xs ≢ []
not_none [] b is isnt = λ e. false≢true (sym isnt ∙ is)
not_none (x ∷ xs) b is isnt = λ e. cc

-- ---- signatures as they are read

pub zip_nothing : (signatures : List (List ℕ)) (rrsigs : List Rrsig) → AllZip IsRrsig signatures rrsigs → rrsigs ≡ [] → signatures ≡ []
zip_nothing [] rrsigs zip none = refl
zip_nothing (x ∷ signatures) [] zip none = absurd zip
zip_nothing (x ∷ signatures) (y ∷ rrsigs) zip none = let never : ⊥ = cc in absurd never

pub zip_something : (signatures : List (List ℕ)) (rrsigs : List Rrsig) → AllZip IsRrsig signatures rrsigs → rrsigs ≢ [] → signatures ≢ []
zip_something [] [] zip some = λ e. some refl
zip_something [] (y ∷ rrsigs) zip some = absurd zip
zip_something (x ∷ signatures) rrsigs zip some = λ e. cc

-- ---- an answer that is an option

pub is_there : {X : Type 0} (Is : X → Type 0) (found : Option X) (b : Bool) → b ≡ is_some found
    → MatchOption found ((x : X) → ¬ Is x) Is → IsTrue b ↔ ((x : X) × Is x)
is_there Is None b test none = (λ yes. absurd (false≢true (sym test ∙ yes)), λ has. absurd (none has.0 has.1))
is_there Is (Some x) b test is = (λ yes. (x, is), λ has. test)
