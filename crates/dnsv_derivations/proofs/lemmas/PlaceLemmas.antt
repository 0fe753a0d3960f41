-- Where the RRsets stand that lines name.
use Rattle.std.proofs.Common.{◌≡◌, ◌↔◌, ℕ, zero, suc, ◌+◌, ◌-◌, ◌<◌, ◌≤◌, Bool, true, false, cond, List, [], ◌∷◌, ◌++◌, length, get_or, take, filter, Some, refl, sym, ap, ◌∙◌, subst, ⊎_elim, arith}
use Rattle.std.proofs.lemmas.Bool.Decides.{nat_tests}
use Rattle.std.proofs.lemmas.List.{append-nil, map_push}
use Rattle.std.proofs.lemmas.List.Elements.{All-contains, All-contains_itself, All-filter, Contains-append_cases, Contains-append_left, Contains-append_right, Contains-push_cases, filter_more}
use Rattle.std.proofs.lemmas.List.Kept.{Contains-dedup_nat, Contains-from_dedup, IsStrictlyIncreasing-filter}
use Rattle.std.proofs.lemmas.List.Sorted.{Contains-permutation, IsPermutation-sym}
use Rattle.std.proofs.lemmas.Map.Keys.{IsStrictlyIncreasing-dedup}
use lib.Dec.{eqb}
use Rattle.std.specs.List.{Contains, dedup, slice_get}
use Rattle.std.specs.List.Sorted.{IsPermutation, IsSorted, IsStrictlyIncreasing}
use Rattle.std.specs.Ordering.{nat_cmp}
use Rattle.dnsv_canonical.specs.Rrsets.{IsNumbered, ReceivedRrset}
use Rattle.dnsv_verifier.specs.Asking.{AddsJust, ComesOfSome}
use Rattle.dnsv_lines.specs.Rows.{named_rrsets}
use Rattle.dnsv_derivations.specs.Following.{IsPlaceOf}
use Rattle.dnsv_derivations.specs.Places.{AddsPlace, ArePlacedBy, ArePlacesOf, NamesRrset, has_number, place_numbers}
use Rattle.dnsv_lines.specs.declared.line.Line.{Line}
use Rattle.dnsv_lines.specs.declared.line.place.RrsetPlace.{RrsetPlace}

-- ---- numbers

-- a list added is all that came
pub adds_all : {X : Type 0} (xs ys : List X) → AddsJust (Contains ys) xs (xs ++ ys)
adds_all xs ys = record {
  kept = λ x there. Contains-append_left xs ys x there;
  added = λ x there. Contains-append_right xs ys x there;
  only = λ x there. Contains-append_cases xs ys x there;
}

-- the line has the number
abbrev pub Names : Line → ℕ → Type 0
Names line number = Contains (named_rrsets line) number

-- the numbers of a line are added
pub adds_named : (line : Line) (old new : List ℕ) → new ≡ old ++ named_rrsets line → AddsJust (Names line) old new
adds_named line old new is =
    let Adds : List ℕ → Type 0 = λ each. AddsJust (Names line) old each in
    subst Adds (sym is) (adds_all old (named_rrsets line))

-- the numbers that lines have
pub are_named : (lines : List Line) (numbers : List ℕ)
    → AddsJust (ComesOfSome Names lines) [] numbers
    → (number : ℕ) → Contains numbers number ↔ NamesRrset lines number
are_named lines numbers adds number = (
  λ there. ⊎_elim (λ (none : Contains [] number). absurd (omega (arith, none.1)))
      (λ (of : ComesOfSome Names lines number).
      record { line = of.source; among = of.among; named = of.is }) (adds.only number there),
  λ names. adds.added number (record { source = names.line; among = names.among; is = names.named }),
)

-- what a sort and a `dedup` leave of them
pub once_rising : (sorted kept : List ℕ) → IsSorted nat_cmp sorted → kept ≡ dedup eqb sorted → IsStrictlyIncreasing kept
once_rising sorted kept ordered left =
    let Rises : List ℕ → Type 0 = λ each. IsStrictlyIncreasing each in
    subst Rises (sym left) (IsStrictlyIncreasing-dedup sorted ordered)

pub each_once : (lines : List Line) (received sorted kept : List ℕ)
    → ((number : ℕ) → Contains received number ↔ NamesRrset lines number) → IsPermutation received sorted
    → kept ≡ dedup eqb sorted → (number : ℕ) → Contains kept number ↔ NamesRrset lines number
each_once lines received sorted kept members moved left number =
    let Has : List ℕ → Type 0 = λ each. Contains each number in (
      λ there. (members number).0 (Contains-permutation sorted received number (IsPermutation-sym received sorted moved)
          (Contains-from_dedup eqb sorted number (subst Has left there))),
      λ names. subst Has (sym left)
          (Contains-dedup_nat sorted number (Contains-permutation received sorted number moved ((members number).1 names))),
    )

-- ---- which numbers are those of elements

some_at : {X : Type 0} (xs : List X) (i : ℕ) → i < length xs → (x : X) × (slice_get xs i ≡ Some x)
some_at [] i below = absurd (omega arith)
some_at (x ∷ xs) zero below = (x, refl)
some_at (x ∷ xs) (suc i) below = some_at xs i (omega arith)

within : {X : Type 0} (xs : List X) (i : ℕ) (x : X) → slice_get xs i ≡ Some x → i < length xs
within [] i x there = cc
within (y ∷ xs) zero x there = omega arith
within (y ∷ xs) (suc i) x there = omega (arith, within xs i x there)

numbered_has : {X : Type 0} (xs : List X) (number : ℕ) (x : X) → IsNumbered xs number x → has_number xs number ≡ true
numbered_has xs number x numbered =
    let below : number - 1 < length xs = within xs (number - 1) x numbered.1 in
    let first : 1 ≤ number = numbered.0 in
    let last : number ≤ length xs = omega arith in
    grind (arith, nat_tests)

none_has : {X : Type 0} (xs : List X) (number : ℕ) → ((x : X) → ¬ IsNumbered xs number x) → has_number xs number ≡ false
none_has xs number none = by_test (has_number xs number) refl where
  by_test : (test : Bool) → has_number xs number ≡ test → has_number xs number ≡ false
  by_test false is = is
  by_test true is =
      let first : 1 ≤ number = grind (arith, nat_tests) in
      let last : number ≤ length xs = grind (arith, nat_tests) in
      let there = some_at xs (number - 1) (omega arith) in
      absurd (none there.0 (first, there.1))

-- ---- what passes a test

contains_of_filter : (p : ℕ → Bool) (xs : List ℕ) (x : ℕ) → Contains (filter p xs) x → Contains xs x
contains_of_filter p xs x there =
    All-contains (Contains xs) (filter p xs) x (All-filter p (Contains xs) xs (All-contains_itself xs)) there

filter_contains : (p : ℕ → Bool) (xs : List ℕ) (x : ℕ) → Contains xs x → p x ≡ true → Contains (filter p xs) x
filter_contains p [] x there passes = absurd (omega (arith, there.1))
filter_contains p (y ∷ xs) x there passes =
    ⊎_elim (λ (first : Contains (y ∷ []) x).
    let same : y ≡ x = ⊎_elim (λ (none : Contains [] x). absurd (omega (arith, none.1))) (λ (is : y ≡ x). is) (Contains-push_cases [] y x first) in
    let Passes : ℕ → Type 0 = λ z. p z ≡ true in
    let Has : Bool → Type 0 = λ test. Contains (cond test (y ∷ filter p xs) (filter p xs)) x in
    subst Has (sym (subst Passes (sym same) passes)) (0, omega arith, same))
    (λ (behind : Contains xs x). kept (p y) p y xs x (filter_contains p xs x behind passes))
    (Contains-append_cases (y ∷ []) xs x there) where
      kept : (test : Bool) (p : ℕ → Bool) (y : ℕ) (xs : List ℕ) (x : ℕ) → Contains (filter p xs) x
          → Contains (cond test (y ∷ filter p xs) (filter p xs)) x
      kept true p y xs x there = Contains-append_right (y ∷ []) (filter p xs) x there
      kept false p y xs x there = there

-- ---- places

-- one number more
pub placed_more : (rrsets : List ReceivedRrset) (numbers : List ℕ) (i number : ℕ) (old new : List RrsetPlace)
    → i < length numbers → number ≡ get_or numbers i 0 → ArePlacedBy rrsets (take i numbers) old
    → AddsPlace rrsets number old new → ArePlacedBy rrsets (take (i + 1) numbers) new
placed_more rrsets numbers i number old new below is placed adds =
    let more = filter_more (has_number rrsets) numbers i 0 below in
    let Tested : ℕ → Type 0 = λ each. filter (has_number rrsets) (take (i + 1) numbers)
    ≡ filter (has_number rrsets) (take i numbers) ++ cond (has_number rrsets each) (each ∷ []) [] in
    let tested : Tested number = subst Tested (sym is) more in
    ⊎_elim (λ (none : ((rrset : ReceivedRrset) → ¬ IsNumbered rrsets number rrset) × (new ≡ old)).
    let Same : List RrsetPlace → Type 0 = λ places. ArePlacedBy rrsets (take (i + 1) numbers) places in
    let test : has_number rrsets number ≡ false = none_has rrsets number none.0 in
    let Without : Bool → Type 0 = λ passes. filter (has_number rrsets) (take (i + 1) numbers)
    ≡ filter (has_number rrsets) (take i numbers) ++ cond passes (number ∷ []) [] in
    let left : Without false = subst Without test tested in
    subst Same (sym none.1) (record {
      each = placed.each;
      are = placed.are ∙ sym (left ∙ append-nil (filter (has_number rrsets) (take i numbers)));
    }))
    (λ (one : (place : RrsetPlace) × IsPlaceOf rrsets place × (place.rrset ≡ number) × (new ≡ old ++ place ∷ [])).
    let Same : List RrsetPlace → Type 0 = λ places. ArePlacedBy rrsets (take (i + 1) numbers) places in
    let Numbered : ℕ → Type 0 = λ each. IsNumbered rrsets each one.1.rrset in
    let test : has_number rrsets number ≡ true =
    numbered_has rrsets number one.1.rrset (subst Numbered one.2 one.1.is_rrset) in
    let With : Bool → Type 0 = λ passes. filter (has_number rrsets) (take (i + 1) numbers)
    ≡ filter (has_number rrsets) (take i numbers) ++ cond passes (number ∷ []) [] in
    let right : With true = subst With test tested in
    subst Same (sym one.3) (record {
      each = λ place there. ⊎_elim (λ (before : Contains old place). placed.each place before)
          (λ (last : one.0 ≡ place). let Is : RrsetPlace → Type 0 = λ each. IsPlaceOf rrsets each in subst Is last one.1)
          (Contains-push_cases old one.0 place there);
      are = map_push (λ (place : RrsetPlace). place.rrset) old one.0
          ∙ ap (λ numbers. place_numbers old ++ numbers ∷ []) one.2
          ∙ ap (λ before. before ++ number ∷ []) placed.are ∙ sym right;
    }))
    adds

-- the places of all numbers that the lines have
pub are_places : (rrsets : List ReceivedRrset) (lines : List Line) (numbers : List ℕ) (places : List RrsetPlace)
    → IsStrictlyIncreasing numbers → ((number : ℕ) → Contains numbers number ↔ NamesRrset lines number)
    → ArePlacedBy rrsets numbers places → ArePlacesOf rrsets lines places
are_places rrsets lines numbers places rising members placed =
    let Rises : List ℕ → Type 0 = λ each. IsStrictlyIncreasing each in
    let Has : ℕ → List ℕ → Type 0 = λ number each. Contains each number in record {
      rising = subst Rises (sym placed.are) (IsStrictlyIncreasing-filter (has_number rrsets) numbers rising);
      each = placed.each;
      named = λ number there.
          (members number).0 (contains_of_filter (has_number rrsets) numbers number (subst (Has number) placed.are there));
      every = λ number rrset names numbered. subst (Has number) (sym placed.are)
          (filter_contains (has_number rrsets) numbers number ((members number).1 names) (numbered_has rrsets number rrset numbered));
    }
