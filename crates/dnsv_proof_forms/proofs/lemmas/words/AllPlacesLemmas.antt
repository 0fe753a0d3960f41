-- All places where something is said.
use Rattle.std.proofs.Common.{◌≡◌, ◌⊎◌, Bool, ℕ, zero, suc, ◌+◌, ◌<◌, ◌≤◌, List, [], ◌∷◌, ◌++◌, length, get_or, refl, sym, ap, ◌∙◌, subst, inl, inr, ⊎_elim, arith}
use Rattle.std.proofs.lemmas.Bool.{cases_lt}
use Rattle.std.proofs.lemmas.List.Elements.{Contains-append_left, Contains-get_or, Contains-push, Contains-push_cases, recursion_from_All}
use Rattle.std.proofs.lemmas.Option.{slice_get-get_or, slice_get_within, get_or_from_slice_get}
use Rattle.std.specs.Cmp.{nat_cmp_is}
use Rattle.std.specs.List.{AllByRecursion}
use Rattle.std.specs.List.Sorted.{IsStrictlySortedBy}
use Rattle.std.specs.Ordering.{nat_cmp}
use Rattle.std.specs.Prelude.{◌↔◌, Contains, IsTrue, Some, slice_get}
use Rattle.std.specs.declared.cmp.Ordering.TheVariants.{Less}
use Rattle.dnsv_records.specs.OctetLaws.{recursion-append}
use Rattle.dnsv_proof_forms.specs.records.HashIndex.{IsListed}
use Rattle.dnsv_proof_forms.specs.words.SaidAt.{AreAllPlaces, IsSaidAt}
use Rattle.dnsv_proof_forms.specs.declared.records.hash_places.HashPlace.{HashPlace}
use Rattle.dnsv_proof_forms.proofs.lemmas.words.FirstAmongLemmas.{IsListedTo}

-- what comes to the same has the same places
pub all_alike : (P Q : ℕ → Type 0) (places : List ℕ) → ((place : ℕ) → P place → Q place) → ((place : ℕ) → Q place → P place)
    → AreAllPlaces P places → AreAllPlaces Q places
all_alike P Q places to from are = record {
  rising = are.rising;
  members = λ place. (λ there. to place ((are.members place).0 there), λ says. (are.members place).1 (from place says));
}

pub all_as : {X : Type 0} (P Q : X → Type 0) (xs : List X) (places : List ℕ) → ((x : X) → P x → Q x) → ((x : X) → Q x → P x)
    → AreAllPlaces (IsSaidAt P xs) places → AreAllPlaces (IsSaidAt Q xs) places
all_as P Q xs places to from = all_alike (IsSaidAt P xs) (IsSaidAt Q xs) places
    (λ place said. record { entry = said.entry; there = said.there; says = to said.entry said.says })
    (λ place said. record { entry = said.entry; there = said.there; says = from said.entry said.says })

-- nothing is said anywhere
pub nowhere : (P : ℕ → Type 0) → ((place : ℕ) → ¬ P place) → AreAllPlaces P []
unfolding IsStrictlySortedBy
nowhere P none = record { rising = tt; members = λ place. (λ there. absurd (omega (arith, there.1)), λ says. absurd (none place says)) }

pub said_here : {X : Type 0} (Says : X → Type 0) (xs : List X) (place : ℕ) (x : X) (told : Bool) → slice_get xs place ≡ Some x → (IsTrue told ↔ Says x)
    → IsTrue told ↔ IsSaidAt Says xs place
said_here Says xs place x told there tells = (
  λ holds. record { entry = x; there = there; says = tells.0 holds },
  λ said. let at = said.there in let is : said.entry ≡ x = cc in tells.1 (subst Says is said.says),
)

-- ---- one record after another

rising_push : (places : List ℕ) (n : ℕ) → IsStrictlySortedBy nat_cmp places → AllByRecursion (λ place. nat_cmp place n ≡ Less) places
    → IsStrictlySortedBy nat_cmp (places ++ n ∷ [])
unfolding IsStrictlySortedBy
rising_push [] n rises below = (tt, tt)
rising_push (place ∷ places) n rises below =
    (recursion-append (λ other. nat_cmp place other ≡ Less) places (n ∷ []) rises.0 (below.0, tt), rising_push places n rises.1 below.1)

module _ {X : Type 0} (Says : X → Type 0) (xs : List X) where
  abbrev pub AreAllTo : ℕ → List ℕ → Type 0
  AreAllTo n = AreAllPlaces (λ place. (place < n) × IsSaidAt Says xs place)

  pub none_at_first : AreAllTo 0 []
  none_at_first = nowhere (λ place. (place < 0) × IsSaidAt Says xs place) (λ place said. omega (arith, said.0))

  less_than : (n : ℕ) (x : X) → slice_get xs n ≡ Some x → (place : ℕ) → (place < n + 1) × IsSaidAt Says xs place
      → ((place < n) × IsSaidAt Says xs place) ⊎ ((n ≡ place) × Says x)
  less_than n x there place said = ⊎_elim
      (λ (early : place < n). inl (early, said.1))
      (λ (late : n ≤ place).
      let last : n ≡ place = omega (arith, late, said.0) in
      let here : slice_get xs n ≡ Some said.1.entry = subst (λ (k : ℕ). slice_get xs k ≡ Some said.1.entry) (sym last) said.1.there in
      let is : said.1.entry ≡ x = cc in inr (last, subst Says is said.1.says))
      (cases_lt place n)

  pub one_more : (n : ℕ) (x : X) (places : List ℕ) → slice_get xs n ≡ Some x → Says x → AreAllTo n places → AreAllTo (n + 1) (places ++ n ∷ [])
  one_more n x places there says are = record {
    rising = rising_push places n are.rising (recursion_from_All (λ place. nat_cmp place n ≡ Less) places
        (λ k d within. let it = (are.members (get_or places k d)).0 (Contains-get_or places k d within) in sym (nat_cmp_is (get_or places k d) n Less it.0)));
    members = λ place. (
      λ among. ⊎_elim
          (λ (before : Contains places place). let it = (are.members place).0 before in (omega (arith, it.0), it.1))
          (λ (is : n ≡ place). (omega (arith, is), record { entry = x; there = subst (λ (k : ℕ). slice_get xs k ≡ Some x) is there; says = says }))
          (Contains-push_cases places n place among),
      λ said. ⊎_elim
          (λ (early : (place < n) × IsSaidAt Says xs place). Contains-append_left places (n ∷ []) place ((are.members place).1 early))
          (λ (last : (n ≡ place) × Says x). subst (Contains (places ++ n ∷ [])) last.0 (Contains-push places n))
          (less_than n x there place said),
    );
  }

  pub none_more : (n : ℕ) (x : X) (places : List ℕ) → slice_get xs n ≡ Some x → ¬ Says x → AreAllTo n places → AreAllTo (n + 1) places
  none_more n x places there not_so = all_alike (λ place. (place < n) × IsSaidAt Says xs place) (λ place. (place < n + 1) × IsSaidAt Says xs place) places
      (λ place said. (omega (arith, said.0), said.1))
      (λ place said. ⊎_elim (λ (early : (place < n) × IsSaidAt Says xs place). early) (λ (last : (n ≡ place) × Says x). absurd (not_so last.1)) (less_than n x there place said))

  pub all_asked : (n : ℕ) (places : List ℕ) → length xs ≤ n → AreAllTo n places → AreAllPlaces (IsSaidAt Says xs) places
  all_asked n places whole = all_alike (λ place. (place < n) × IsSaidAt Says xs place) (IsSaidAt Says xs) places
      (λ place said. said.1)
      (λ place said. let within = slice_get_within xs place said.entry said.there in (omega (arith, within, whole), said))

-- ---- those of listed places

module _ {Entry : Type 0} (Says : Entry → Type 0) (entries : List Entry) (places : List HashPlace) (before : List ℕ) where
  -- what is there is what was there, and what is said at the first n of the places
  abbrev pub AddsTo : ℕ → List ℕ → Type 0
  AddsTo n now = (place : ℕ) → Contains now place ↔ (Contains before place ⊎ (IsListedTo places n place × IsSaidAt Says entries place))

  pub none_added : AddsTo 0 before
  none_added = λ place. (
    λ there. inl there,
    λ either. ⊎_elim (λ (there : Contains before place). there)
        (λ (said : IsListedTo places 0 place × IsSaidAt Says entries place). absurd (omega (arith, said.0.before))) either,
  )

  sooner : (n : ℕ) (place : ℕ) → IsListedTo places n place → IsListedTo places (n + 1) place
  sooner n place listed = record { k = listed.k; before = omega (arith, listed.before); item = listed.item; there = listed.there; same = listed.same }

  next_listed : (n : ℕ) (item : HashPlace) → slice_get places n ≡ Some item → (place : ℕ) → IsListedTo places (n + 1) place
      → IsListedTo places n place ⊎ (item.place ≡ place)
  next_listed n item there place listed = ⊎_elim
      (λ (early : listed.k < n). inl (record { k = listed.k; before = early; item = listed.item; there = listed.there; same = listed.same }))
      (λ (late : n ≤ listed.k).
      let last : listed.k ≡ n = omega (arith, late, listed.before) in
      let here : slice_get places n ≡ Some listed.item = subst (λ (k : ℕ). slice_get places k ≡ Some listed.item) last listed.there in
      let is : item ≡ listed.item = cc in inr (ap (λ (each : HashPlace). each.place) is ∙ listed.same))
      (cases_lt listed.k n)

  pub one_added : (n : ℕ) (item : HashPlace) (now : List ℕ) → slice_get places n ≡ Some item → IsSaidAt Says entries item.place
      → AddsTo n now → AddsTo (n + 1) (now ++ item.place ∷ [])
  one_added n item now there says so_far = λ place. (
    λ among. ⊎_elim
        (λ (earlier : Contains now place). ⊎_elim (λ (old : Contains before place). inl old)
        (λ (said : IsListedTo places n place × IsSaidAt Says entries place). inr (sooner n place said.0, said.1)) ((so_far place).0 earlier))
        (λ (is : item.place ≡ place). inr (record { k = n; before = omega arith; item = item; there = there; same = is }, subst (IsSaidAt Says entries) is says))
        (Contains-push_cases now item.place place among),
    λ either. ⊎_elim
        (λ (old : Contains before place). Contains-append_left now (item.place ∷ []) place ((so_far place).1 (inl old)))
        (λ (said : IsListedTo places (n + 1) place × IsSaidAt Says entries place). ⊎_elim
        (λ (early : IsListedTo places n place). Contains-append_left now (item.place ∷ []) place ((so_far place).1 (inr (early, said.1))))
        (λ (is : item.place ≡ place). subst (Contains (now ++ item.place ∷ [])) is (Contains-push now item.place))
        (next_listed n item there place said.0))
        either,
  )

  pub none_added_more : (n : ℕ) (item : HashPlace) (now : List ℕ) → slice_get places n ≡ Some item → ¬ IsSaidAt Says entries item.place
      → AddsTo n now → AddsTo (n + 1) now
  none_added_more n item now there not_so so_far = λ place. (
    λ among. ⊎_elim (λ (old : Contains before place). inl old)
        (λ (said : IsListedTo places n place × IsSaidAt Says entries place). inr (sooner n place said.0, said.1)) ((so_far place).0 among),
    λ either. ⊎_elim
        (λ (old : Contains before place). (so_far place).1 (inl old))
        (λ (said : IsListedTo places (n + 1) place × IsSaidAt Says entries place). ⊎_elim
        (λ (early : IsListedTo places n place). (so_far place).1 (inr (early, said.1)))
        (λ (is : item.place ≡ place). absurd (not_so (subst (IsSaidAt Says entries) (sym is) said.1)))
        (next_listed n item there place said.0))
        either,
  )

  pub all_added : (n : ℕ) (now : List ℕ) → length places ≤ n → AddsTo n now
      → (place : ℕ) → Contains now place ↔ (Contains before place ⊎ (IsListed places place × IsSaidAt Says entries place))
  all_added n now whole so_far = λ place. (
    λ among. ⊎_elim (λ (old : Contains before place). inl old)
        (λ (said : IsListedTo places n place × IsSaidAt Says entries place). inr (
          record {
            item = said.0.item;
            among = (said.0.k, slice_get_within places said.0.k said.0.item said.0.there, get_or_from_slice_get places said.0.k said.0.item said.0.item said.0.there);
            same = said.0.same;
          },
          said.1,
        )) ((so_far place).0 among),
    λ either. ⊎_elim (λ (old : Contains before place). (so_far place).1 (inl old))
        (λ (said : IsListed places place × IsSaidAt Says entries place).
        let (k, within, at) = said.0.among in
        (so_far place).1 (inr (record { k = k; before = omega (arith, within, whole); item = said.0.item; there = slice_get-get_or places k said.0.item within ∙ ap Some at; same = said.0.same }, said.1)))
        either,
  )

-- where all that say it are listed in one of two parts, they are what both parts add
pub all_of_parts : {Entry : Type 0} (Says : Entry → Type 0) (entries : List Entry) (one other : List HashPlace) (first both ordered : List ℕ)
    → ((place : ℕ) → IsSaidAt Says entries place → IsListed one place ⊎ IsListed other place)
    → ((place : ℕ) → Contains first place ↔ (Contains [] place ⊎ (IsListed one place × IsSaidAt Says entries place)))
    → ((place : ℕ) → Contains both place ↔ (Contains first place ⊎ (IsListed other place × IsSaidAt Says entries place)))
    → IsStrictlySortedBy nat_cmp ordered → ((place : ℕ) → Contains ordered place ↔ Contains both place)
    → AreAllPlaces (IsSaidAt Says entries) ordered
all_of_parts Says entries one other first both ordered all is_first is_both rising same = record {
  rising = rising;
  members = λ place. (
    λ among. ⊎_elim
        (λ (early : Contains first place). ⊎_elim (λ (none : Contains [] place). absurd (omega (arith, none.1)))
        (λ (said : IsListed one place × IsSaidAt Says entries place). said.1) ((is_first place).0 early))
        (λ (said : IsListed other place × IsSaidAt Says entries place). said.1)
        ((is_both place).0 ((same place).0 among)),
    λ said. (same place).1 ((is_both place).1 (⊎_elim
        (λ (listed : IsListed one place). inl ((is_first place).1 (inr (listed, said))))
        (λ (listed : IsListed other place). inr (listed, said))
        (all place said))),
  );
}
