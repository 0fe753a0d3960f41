-- What appears first: whatever is the same as one of the whole is the same as one of it, and no two of it are the same.
use Rattle.std.proofs.Common.{◌≡◌, ℕ, zero, suc, ◌<◌, ◌&&◌, ◌||◌, ◌==◌, Bool, true, false, cond, List, [], ◌∷◌, ◌++◌, length, get_or, map, refl, sym, ap, ◌∙◌, subst, arith, append_assoc, IsTrue}
use Rattle.std.specs.Prelude.{All, AllPairs, Contains, filter}
use Rattle.std.specs.Cmp.{IsEquivalence}
use Rattle.std.specs.List.{list_any}
use Rattle.std.proofs.lemmas.Bool.{and_from, and_parts, eqb-true, true≢false}
use Rattle.std.proofs.lemmas.Cmp.{nat_eq_equiv}
use Rattle.std.proofs.lemmas.List.{append-nil}
use Rattle.std.proofs.lemmas.List.Elements.{All-from_recursion, All-head, All-map, All-push, All-tail}
use Rattle.std.proofs.lemmas.List.Folds.{Any-from_list_any, list_any-append, list_any_at}
use Rattle.std.proofs.lemmas.List.Kept.{AllPairs-cons}
use Rattle.dnsv_names.specs.Name.{SameName, same_name}
use Rattle.dnsv_names.specs.Order.OrderLaws.{same_name_Decides}
use Rattle.dnsv_message.specs.declared.record.Record.{Record}
use Rattle.dnsv_message.specs.declared.record.Section.{Section}
use Rattle.dnsv_canonical.specs.Rrsets.{ReceivedRrset, first_appearances, is_grouped, rrset_of, rrsets_in, same_rrset}
use Rattle.dnsv_canonical.proofs.EvidenceLemmas.{first_appearances_kept}
use Rattle.dnsv_canonical.proofs.GroupLemmas.{any_of_filter, first_appearances-push, same_rrset_itself}
use Rattle.dnsv_canonical.proofs.GroupLemmas.AppearanceLemmas.{any_same, each_differs, same_rrset_equiv}

-- ---- lists

or-false : (b : Bool) → (b || false) ≡ b
or-false true = refl
or-false false = refl

-- what holds of no elements, and of one more at the end, holds of any
from_pushes : {X : Type 0} (P : List X → Type 0) → P [] → ((xs : List X) (x : X) → P xs → P (xs ++ x ∷ [])) → (xs : List X) → P xs
from_pushes {X} P none push xs = behind [] xs none where
  behind : (earlier rest : List X) → P earlier → P (earlier ++ rest)
  behind earlier [] holds = subst P (sym (append-nil earlier)) holds
  behind earlier (x ∷ rest) holds = subst P (append_assoc earlier (x ∷ []) rest) (behind (earlier ++ x ∷ []) rest (push earlier x holds))

module _ {X : Type 0} (R : X → X → Type 0) where
  pairs_tail : (x : X) (xs : List X) → AllPairs R (x ∷ xs) → AllPairs R xs
  pairs_tail x xs pairs i j d before within = pairs (suc i) (suc j) d (omega arith) (omega arith)

  pairs_head : (x : X) (xs : List X) → AllPairs R (x ∷ xs) → All (R x) xs
  pairs_head x xs pairs k d within = pairs 0 (suc k) d (omega arith) (omega arith)

  pairs_push : (xs : List X) (x : X) → AllPairs R xs → All (λ y. R y x) xs → AllPairs R (xs ++ x ∷ [])
  pairs_push [] x pairs each = λ i j d before within. absurd (omega (arith, before, within))
  pairs_push (y ∷ ys) x pairs each =
      AllPairs-cons R y (ys ++ x ∷ []) (All-push (R y) ys x (pairs_head y ys pairs) (All-head (λ z. R z x) y ys each))
      (pairs_push ys x (pairs_tail y ys pairs) (All-tail (λ z. R z x) y ys each))

pairs_map : {X Y : Type 0} (R : Y → Y → Type 0) (f : X → Y) (xs : List X) → AllPairs (λ a b. R (f a) (f b)) xs → AllPairs R (map f xs)
pairs_map R f [] pairs = λ i j d before within. absurd (omega (arith, before, within))
pairs_map R f (x ∷ xs) pairs =
    AllPairs-cons R (f x) (map f xs) (All-map (R (f x)) f xs (pairs_head (λ a b. R (f a) (f b)) x xs pairs))
    (pairs_map R f xs (pairs_tail (λ a b. R (f a) (f b)) x xs pairs))

pairs_weaker : {X : Type 0} (R S : X → X → Type 0) → ((a b : X) → R a b → S a b) → (xs : List X) → AllPairs R xs → AllPairs S xs
pairs_weaker R S weaker xs pairs i j d before within = weaker _ _ (pairs i j d before within)

contains_cons : {X : Type 0} (y : X) (xs : List X) (x : X) → Contains xs x → Contains (y ∷ xs) x
contains_cons y xs x found = (suc found.0, omega (arith, found.1), found.2)

-- an element at a place is one of the list, mapped or filtered
map_at : {X Y : Type 0} (f : X → Y) (x : X) (xs : List X) (k : ℕ) → k < length xs → get_or xs k x ≡ x → Contains (map f xs) (f x)
map_at f x [] k within is = absurd (omega (arith, within))
map_at f x (y ∷ ys) zero within is = (0, omega arith, ap f is)
map_at f x (y ∷ ys) (suc k) within is = contains_cons (f y) (map f ys) (f x) (map_at f x ys k (omega (arith, within)) is)

contains_map : {X Y : Type 0} (f : X → Y) (xs : List X) (x : X) → Contains xs x → Contains (map f xs) (f x)
contains_map f xs x found = map_at f x xs found.0 found.1 found.2

module _ {X : Type 0} (test : X → Bool) (x : X) (passes : test x ≡ true) where
  filter_at : (xs : List X) (k : ℕ) → k < length xs → get_or xs k x ≡ x → Contains (filter test xs) x
  filter_at [] k within is = absurd (omega (arith, within))
  filter_at (y ∷ ys) zero within is =
      subst (λ b. Contains (cond b (y ∷ filter test ys) (filter test ys)) x) (sym (ap test is ∙ passes)) (0, omega arith, is)
  filter_at (y ∷ ys) (suc k) within is = kept (test y) (filter_at ys k (omega (arith, within)) is) where
    kept : (b : Bool) → Contains (filter test ys) x → Contains (cond b (y ∷ filter test ys) (filter test ys)) x
    kept true found = contains_cons y (filter test ys) x found
    kept false found = found

  contains_filter : (xs : List X) → Contains xs x → Contains (filter test xs) x
  contains_filter xs found = filter_at xs found.0 found.1 found.2

-- ---- any test

module _ {X : Type 0} (same : X → X → Bool) where
  abbrev are_apart : X → X → Type 0
  are_apart a b = same a b ≡ false

  apart_more : (xs : List X) (x : X) (had : Bool) → list_any (λ y. same y x) xs ≡ had → AllPairs are_apart (first_appearances same xs) → AllPairs are_apart (first_appearances same xs ++ cond had [] (x ∷ []))
  apart_more xs x true is pairs = subst (AllPairs are_apart) (sym (append-nil (first_appearances same xs))) pairs
  apart_more xs x false is pairs =
      pairs_push are_apart (first_appearances same xs) x pairs
      (All-from_recursion (λ y. same y x ≡ false) (first_appearances same xs) (first_appearances_kept same (λ y. same y x ≡ false) xs (each_differs same xs x is)))

  -- no two of those that appear first are the same, by any test
  pub first_appearances_apart : (xs : List X) → AllPairs (λ a b. same a b ≡ false) (first_appearances same xs)
  first_appearances_apart = from_pushes (λ xs. AllPairs are_apart (first_appearances same xs))
      (λ i j d before within. absurd (omega (arith, before, within)))
      (λ xs x pairs. subst (AllPairs are_apart) (sym (first_appearances-push same xs x)) (apart_more xs x (list_any (λ y. same y x) xs) refl pairs))

  module _ (equivalence : IsEquivalence same) (q : X) where
    abbrev is_q : X → Bool
    is_q y = same y q

    last_any : (xs : List X) (x : X) (had now : Bool) → list_any (λ y. same y x) xs ≡ had → same x q ≡ now → (list_any is_q xs || list_any is_q (cond had [] (x ∷ []))) ≡ (list_any is_q xs || now)
    last_any xs x true true had now = ap (λ b. b || false) (sym (any_same same equivalence q x xs now) ∙ had) ∙ sym (ap (λ b. b || true) (sym (any_same same equivalence q x xs now) ∙ had))
    last_any xs x true false had now = refl
    last_any xs x false now had is = ap (λ b. list_any is_q xs || (b || false)) is ∙ ap (λ b. list_any is_q xs || b) (or-false now)

    -- one of those that appear first is the same as q where one of all is, by a test that decides an equivalence
    pub first_appearances_any : (xs : List X) → list_any (λ y. same y q) (first_appearances same xs) ≡ list_any (λ y. same y q) xs
    first_appearances_any = from_pushes (λ xs. list_any is_q (first_appearances same xs) ≡ list_any is_q xs) refl (λ xs x so_far.
        ap (list_any is_q) (first_appearances-push same xs x)
        ∙ list_any-append is_q (first_appearances same xs) (cond (list_any (λ y. same y x) xs) [] (x ∷ []))
        ∙ ap (λ b. b || list_any is_q (cond (list_any (λ y. same y x) xs) [] (x ∷ []))) so_far
        ∙ last_any xs x (list_any (λ y. same y x) xs) (same x q) refl refl
        ∙ sym (list_any-append is_q xs (x ∷ []) ∙ ap (λ b. list_any is_q xs || b) (or-false (same x q))))

-- ---- RRsets

apart_rrsets : (a b : Record) → same_rrset a b ≡ false → a.rtype.0 ≡ b.rtype.0 → SameName a.name b.name → ⊥
apart_rrsets a b apart rtype owner =
    true≢false (sym (and_from (a.rtype.0 == b.rtype.0) (same_name a.name b.name) (ap (λ n. a.rtype.0 == n) (sym rtype) ∙ nat_eq_equiv.refl a.rtype.0) ((same_name_Decides a.name b.name).1 owner)) ∙ apart)

module _ (number : ℕ) (section : Section) (records : List Record) where
  abbrev grouped : List Record
  grouped = filter is_grouped records

  pub rrsets_apart : AllPairs (λ (a : ReceivedRrset) (b : ReceivedRrset). a.rtype ≡ b.rtype → SameName a.owner b.owner → ⊥) (rrsets_in number section records)
  rrsets_apart =
      let differ : ReceivedRrset → ReceivedRrset → Type 0 = λ a b. a.rtype ≡ b.rtype → SameName a.owner b.owner → ⊥ in
      let make : Record → ReceivedRrset = rrset_of number section records in
      pairs_map differ make (first_appearances same_rrset grouped)
      (pairs_weaker (λ a b. same_rrset a b ≡ false) (λ a b. differ (make a) (make b)) apart_rrsets (first_appearances same_rrset grouped) (first_appearances_apart same_rrset grouped))

  pub rrset_with : (r : Record) → Contains records r → IsTrue (is_grouped r) → (rrset : ReceivedRrset) × Contains (rrsets_in number section records) rrset × (rrset.rtype ≡ r.rtype.0) × SameName rrset.owner r.name × Contains rrset.rdata r.rdata
  rrset_with r found forms =
      let some : list_any (λ y. same_rrset y r) grouped ≡ true =
      any_of_filter is_grouped (λ y. same_rrset y r) records
      ∙ list_any_at (λ y. is_grouped y && same_rrset y r) records found.0 r found.1 (ap (λ y. is_grouped y && same_rrset y r) found.2 ∙ and_from (is_grouped r) (same_rrset r r) forms (same_rrset_itself r)) in
      let first = Any-from_list_any (λ y. same_rrset y r) (first_appearances same_rrset grouped) (first_appearances_any same_rrset same_rrset_equiv r grouped ∙ some) in
      let x : Record = first.1 in
      let its : same_rrset x r ≡ true = first.4 in
      let parts = and_parts (x.rtype.0 == r.rtype.0) (same_name x.name r.name) its in (
        rrset_of number section records x,
        contains_map (rrset_of number section records) (first_appearances same_rrset grouped) x (first.0, first.2, first.3),
        eqb-true x.rtype.0 r.rtype.0 parts.0,
        (same_name_Decides x.name r.name).0 parts.1,
        contains_map (λ (y : Record). y.rdata) (filter (same_rrset x) grouped) r (contains_filter (same_rrset x) r its grouped (contains_filter is_grouped r forms records found)),
      )
