-- What holds of no member by its place, is said at no place of the list.
use Rattle.std.proofs.lemmas.Cmp.{ranked}
use Rattle.std.proofs.Common.{sym, Option, None, ◌≤◌, ◌≡◌, ◌≢◌, ℕ, ◌+◌, ◌<◌, true, false, List, ⊎_elim, arith, subst}
use Rattle.std.proofs.lemmas.Bool.Decides.{eqb_tells}
use lib.Dec.{eqb}
use Rattle.std.specs.Prelude.{Bool, IfSome, IsTrue, MatchOption, Some, is_some, slice_get, length}
use Rattle.std.proofs.lemmas.Option.{slice_get_within}
use Rattle.std.specs.Ordering.{nat_cmp}
use Rattle.std.specs.declared.cmp.Ordering.TheVariants.{Less}
use Rattle.dnsv_zones.specs.forms.Parts.{IsFirstToSay}
use Rattle.dnsv_proof_forms.specs.forms.ProofForms.{option_by}
use Rattle.dnsv_proof_forms.specs.words.SaidAt.{IsSaidAt, IsFirstPlace}

less : (k n : ℕ) → k < n + 1 → k ≢ n → k < n
less k n small other = omega arith

-- where a member that is none of such follows those before it, none of such is among them all
pub none_with : {X : Type 0} (P : X → Type 0) (xs : List X) (n : ℕ) (x : X) → slice_get xs n ≡ Some x → ¬ P x
    → ((k : ℕ) (y : X) → k < n → slice_get xs k ≡ Some y → ¬ P y)
    → (k : ℕ) (y : X) → k < n + 1 → slice_get xs k ≡ Some y → ¬ P y
none_with P xs n x last not_last before k y small there holds =
    ⊎_elim (λ (same : (eqb k n ≡ true) × (k ≡ n)). let at : slice_get xs n ≡ Some y = subst (λ m. slice_get xs m ≡ Some y) same.1 there in
    let is : y ≡ x = cc in not_last (subst P is holds))
    (λ (other : (eqb k n ≡ false) × (k ≢ n)). before k y (less k n small other.1) there holds)
    (eqb_tells k n)

nat_less : (m n : ℕ) → nat_cmp m n ≡ Less → m < n
nat_less m n less = ranked m n Less (sym less)

pub first_such_of : {X : Type 0} (P : X → Type 0) (xs : List X) (n : ℕ) (x : X) → slice_get xs n ≡ Some x → P x
    → ((k : ℕ) (y : X) → k < n → slice_get xs k ≡ Some y → ¬ P y) → IsFirstToSay nat_cmp (IsSaidAt P xs) n
first_such_of P xs n x there holds before = record {
  says = record { entry = x; there = there; says = holds };
  earliest = λ other said less. before other said.entry (nat_less other n less) said.there said.says;
}

pub none_of : {X : Type 0} (P : X → Type 0) (xs : List X) (n : ℕ) → length xs ≤ n
    → ((k : ℕ) (y : X) → k < n → slice_get xs k ≡ Some y → ¬ P y) → (place : ℕ) → ¬ IsSaidAt P xs place
none_of P xs n whole before place said =
    let within : place < length xs = slice_get_within xs place said.entry said.there in
    before place said.entry (omega arith) said.there said.says

-- the first that is such is the first of what comes to the same
pub first_as : {X : Type 0} (P Q : X → Type 0) (xs : List X) (found : Option ℕ) → ((x : X) → P x → Q x)
    → ((x : X) → Q x → P x) → IsFirstPlace (IsSaidAt P xs) found → IsFirstPlace (IsSaidAt Q xs) found
first_as P Q xs None to from none =
    λ place said. none place (record { entry = said.entry; there = said.there; says = from said.entry said.says })
first_as P Q xs (Some place) to from first = record {
  says = record { entry = first.says.entry; there = first.says.there; says = to first.says.entry first.says.says };
  earliest = λ other said. first.earliest other (record { entry = said.entry; there = said.there; says = from said.entry said.says });
}

-- something is found where there is something
pub some_first : (Says : ℕ → Type 0) (found : Option ℕ) (test : Bool) → test ≡ is_some found → IsFirstPlace Says found
    → (IsTrue test → (place : ℕ) × Says place) × (((place : ℕ) × Says place) → IsTrue test)
some_first Says None test is none = (λ yes. let bad : ⊥ = cc in absurd bad, λ some. absurd (none some.0 some.1))
some_first Says (Some place) test is first = (λ yes. (place, first.says), λ some. is)

pub if_some : {X : Type 0} (N : Type 0) (F G : X → Type 0) (found : Option X) → ((x : X) → F x → G x) → MatchOption found N F → IfSome found G
if_some N F G None to holds = tt
if_some N F G (Some x) to holds = to x holds

pub match_by : {X Y : Type 0} (N : Type 0) (P : X → Type 0) (Q : Y → Type 0) (f : X → Y) (found : Option X) (of : Option Y)
    → of ≡ option_by f found → ((x : X) → P x → Q (f x)) → MatchOption found N P → MatchOption of N Q
match_by N P Q f None of is to holds = subst (λ y. MatchOption y N Q) (sym is) holds
match_by N P Q f (Some x) of is to holds = subst (λ y. MatchOption y N Q) (sym is) (to x holds)
