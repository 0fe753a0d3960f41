-- What records say by their places, they say by their numbers.
use Rattle.std.proofs.Common.{◌≡◌, ℕ, ◌<◌, List, sym, subst, inl, inr, ⊎_elim}
use Rattle.std.proofs.lemmas.Option.{get_or_from_slice_get}
use Rattle.std.specs.Cmp.{nat_cmp_is}
use Rattle.std.specs.Prelude.{Some, slice_get}
use Rattle.std.specs.Ordering.{nat_cmp}
use Rattle.std.specs.declared.cmp.Ordering.TheVariants.{Less}
use Rattle.dnsv_names.specs.Name.{Labels}
use Rattle.dnsv_zones.specs.forms.Parts.{IsFirstToSay}
use Rattle.dnsv_zones.specs.forms.RecordWords.{RecordWords, words}
use Rattle.dnsv_zones.proofs.lemmas.chains.MoreLemmas.{SayMore}
use Rattle.dnsv_proof_forms.specs.records.Numbers.{number_at}
use Rattle.dnsv_proof_forms.specs.records.Numbers.{number_cmp}
use Rattle.dnsv_canonical.specs.declared.number.RecordNumber.{RecordNumber}

-- the places are those of the numbers
pub record SaysAlike (numbers : List RecordNumber) (By : ℕ → Type 0) (Of : RecordNumber → Type 0) : Type 0 where
  pub to : (place : ℕ) → By place → (n : RecordNumber) × (slice_get numbers place ≡ Some n) × Of n
  pub from : (n : RecordNumber) → Of n → (place : ℕ) × (slice_get numbers place ≡ Some n) × By place

pub record SayAlike (numbers : List RecordNumber) (by : RecordWords ℕ) (of : RecordWords RecordNumber) : Type 1 where
  pub needs_to : (name : Labels) → by.NeedsNone name → of.NeedsNone name
  pub needs_from : (name : Labels) → of.NeedsNone name → by.NeedsNone name
  pub encloser : (name : Labels) → SaysAlike numbers (by.Encloser name) (of.Encloser name)
  pub absent : (name : Labels) → SaysAlike numbers (by.Absent name) (of.Absent name)
  pub empty_non_terminal : (name : Labels) → SaysAlike numbers (by.EmptyNonTerminal name) (of.EmptyNonTerminal name)
  pub types_at : (name : Labels) (Says : (ℕ → Type 0) → Type 0) → SaysAlike numbers (by.TypesAt name Says) (of.TypesAt name Says)
  pub opted_out : (name : Labels) → SaysAlike numbers (by.OptedOut name) (of.OptedOut name)

some_to : (numbers : List RecordNumber) (By : ℕ → Type 0) (Of : RecordNumber → Type 0) → SaysAlike numbers By Of → (place : ℕ) × By place → (n : RecordNumber) × Of n
some_to numbers By Of alike some = let it = alike.to some.0 some.1 in (it.0, it.2)

some_from : (numbers : List RecordNumber) (By : ℕ → Type 0) (Of : RecordNumber → Type 0) → SaysAlike numbers By Of → (n : RecordNumber) × Of n → (place : ℕ) × By place
some_from numbers By Of alike some = let it = alike.from some.0 some.1 in (it.0, it.2)

module _ (numbers : List RecordNumber) (by : RecordWords ℕ) (of : RecordWords RecordNumber) (alike : SayAlike numbers by of) where
  pub words_to : SayMore (words by) (words of)
  words_to = record {
    encloser = λ x told. ⊎_elim (λ (none : by.NeedsNone x). inl (alike.needs_to x none)) (λ (some : (place : ℕ) × by.Encloser x place). inr (some_to numbers (by.Encloser x) (of.Encloser x) (alike.encloser x) some)) told;
    absent = λ x. some_to numbers (by.Absent x) (of.Absent x) (alike.absent x);
    empty_non_terminal = λ x. some_to numbers (by.EmptyNonTerminal x) (of.EmptyNonTerminal x) (alike.empty_non_terminal x);
    types_at = λ x Says. some_to numbers (by.TypesAt x Says) (of.TypesAt x Says) (alike.types_at x Says);
  }

  pub words_from : SayMore (words of) (words by)
  words_from = record {
    encloser = λ x told. ⊎_elim (λ (none : of.NeedsNone x). inl (alike.needs_from x none)) (λ (some : (n : RecordNumber) × of.Encloser x n). inr (some_from numbers (by.Encloser x) (of.Encloser x) (alike.encloser x) some)) told;
    absent = λ x. some_from numbers (by.Absent x) (of.Absent x) (alike.absent x);
    empty_non_terminal = λ x. some_from numbers (by.EmptyNonTerminal x) (of.EmptyNonTerminal x) (alike.empty_non_terminal x);
    types_at = λ x Says. some_from numbers (by.TypesAt x Says) (of.TypesAt x Says) (alike.types_at x Says);
  }

-- ---- numbers in order

pub record AreInOrder (numbers : List RecordNumber) : Type 0 where
  pub later : (i j : ℕ) (a b : RecordNumber) → slice_get numbers i ≡ Some a → slice_get numbers j ≡ Some b → number_cmp a b ≡ Less → i < j

module _ (numbers : List RecordNumber) (order : AreInOrder numbers) where
  pub first_such_to : (By : ℕ → Type 0) (Of : RecordNumber → Type 0) → SaysAlike numbers By Of
      → (place : ℕ) → IsFirstToSay nat_cmp By place → IsFirstToSay number_cmp Of (number_at numbers place)
  first_such_to By Of alike place earliest =
      let it = alike.to place earliest.says in
      subst (IsFirstToSay number_cmp Of) (sym (get_or_from_slice_get numbers place it.0 (record { rrset = 0; place = 0 }) it.1)) (record {
        says = it.2;
        earliest = λ other says below.
            let from = alike.from other says in
            earliest.earliest from.0 from.2 (sym (nat_cmp_is from.0 place Less (order.later from.0 place other it.0 from.1 it.1 below)));
      })
