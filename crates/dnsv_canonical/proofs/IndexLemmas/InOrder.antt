-- RRsets in the order of owner and type, and their groups.
use Rattle.std.proofs.Common.{◌≡◌, ◌≢◌, ◌⊎◌, inl, inr, ℕ, zero, suc, ◌+◌, ◌<◌, Bool, false, cond, List, [], ◌∷◌, length, map, take, drop, refl, sym, ap, ◌∙◌, subst, arith}
use Rattle.std.proofs.lemmas.Cmp.{alike_right, nat_cmp_total, on_total, then_total, tied_itself}
use Rattle.std.proofs.lemmas.List.Elements.{filter_agree}
use Rattle.std.proofs.lemmas.Bool.Decides.{nat_tests}
use Rattle.std.specs.Cmp.{IsTotalOrder}
use Rattle.std.specs.Prelude.{◌↔◌, IsTrue, filter, Some, slice_get, Ok, Err, ◌&&◌, ◌==◌}
use Rattle.std.specs.List.{AllByRecursion, enumerate_from}
use Rattle.std.specs.Ordering.{is_eq, nat_cmp, ordering_reverse, ordering_then}
use Rattle.std.specs.declared.cmp.Ordering.{Ordering}
use Rattle.std.specs.declared.cmp.Ordering.TheVariants.{Less, Equal, Greater}
use Rattle.dnsv_names.specs.Name.{Labels, SameName, lower_case, same_name}
use Rattle.dnsv_names.specs.Order.{canonical_cmp}
use Rattle.dnsv_names.specs.Order.OrderLaws.{SameName_Equal, canonical_Equal, canonical_cmp_total, same_name_ties}
use Rattle.dnsv_canonical.specs.Rrsets.{ReceivedRrset}
use Rattle.dnsv_canonical.specs.Index.{numbers_at}
use Rattle.dnsv_canonical.specs.Index.Grouping.{AreRising, HasTie, IsFound, IsPlaceBehind, Key, Numbered, group_at, key_cmp, key_of, stands}
use Rattle.dnsv_canonical.proofs.OrderLemmas.{each_kept}

pub key_total : IsTotalOrder key_cmp
key_total = then_total (on_total (λ (key : Key). key.0) canonical_cmp_total) (on_total (λ (key : Key). key.1) nat_cmp_total)

-- ---- three that are compared

module _ {K : Type 0} {R : K → K → Ordering} (o : IsTotalOrder R) where
  pub turned : (a b : K) → R a b ≡ Less → R b a ≡ Greater
  turned a b less = o.antisymm b a ∙ ap ordering_reverse less

  pub turned_back : (a b : K) → R a b ≡ Greater → R b a ≡ Less
  turned_back a b greater = o.antisymm b a ∙ ap ordering_reverse greater

  pub less_equal : (a b c : K) → R a b ≡ Less → R b c ≡ Equal → R a c ≡ Less
  less_equal a b c less equal = sym (alike_right o b c a equal) ∙ less

  -- what is behind one that isn't before c is behind c
  pub behind_greater : (a b c : K) → R a c ≡ Greater → R a b ≡ Less → R b c ≡ Greater
  behind_greater a b c greater less = turned c b (o.trans c a b (turned_back a c greater) less)

  pub behind_equal : (a b c : K) → R a c ≡ Equal → R a b ≡ Less → R b c ≡ Greater
  behind_equal a b c equal less = turned c b (sym (o.congr a c b equal) ∙ less)

pub less_or_equal : (r : Ordering) → r ≢ Greater → (r ≡ Less) ⊎ (r ≡ Equal)
less_or_equal Less never = inl refl
less_or_equal Equal never = inr refl
less_or_equal Greater never = absurd (never refl)

pub less_not_greater : (r : Ordering) → r ≡ Less → r ≢ Greater
less_not_greater r less greater = let turn : Less ≡ Greater = sym less ∙ greater in cc

pub equal_not_greater : (r : Ordering) → r ≡ Equal → r ≢ Greater
equal_not_greater r equal greater = let turn : Equal ≡ Greater = sym equal ∙ greater in cc

pub less_not_equal : (r : Ordering) → r ≡ Less → r ≢ Equal
less_not_equal r less equal = let turn : Less ≡ Equal = sym less ∙ equal in cc

pub greater_not_equal : (r : Ordering) → r ≡ Greater → r ≢ Equal
greater_not_equal r greater equal = let turn : Greater ≡ Equal = sym greater ∙ equal in cc

pub is_eq_false : (r : Ordering) → r ≢ Equal → is_eq r ≡ false
is_eq_false Equal never = absurd (never refl)
is_eq_false r never = refl

-- ---- lists

pub each_get : {X : Type 0} (P : X → Type 0) (xs : List X) (i : ℕ) (x : X) → AllByRecursion P xs → slice_get xs i ≡ Some x → P x
each_get P [] i x each at = cc
each_get P (y ∷ ys) zero x each at = let is : y ≡ x = cc in subst P is each.0
each_get P (y ∷ ys) (suc i) x each at = each_get P ys i x each.1 at

pub there_is : {X : Type 0} (xs : List X) (i : ℕ) → i < length xs → (x : X) × (slice_get xs i ≡ Some x)
there_is [] i within = absurd (omega (arith, within))
there_is (x ∷ xs) zero within = (x, refl)
there_is (x ∷ xs) (suc i) within = there_is xs i (omega (arith, within))

pub each_take : {X : Type 0} (P : X → Type 0) (n : ℕ) (xs : List X) → AllByRecursion P xs → AllByRecursion P (take n xs)
each_take P zero xs each = tt
each_take P (suc n) [] each = tt
each_take P (suc n) (x ∷ xs) each = (each.0, each_take P n xs each.1)

pub each_drop : {X : Type 0} (P : X → Type 0) (n : ℕ) (xs : List X) → AllByRecursion P xs → AllByRecursion P (drop n xs)
each_drop P zero xs each = each
each_drop P (suc n) [] each = tt
each_drop P (suc n) (x ∷ xs) each = each_drop P n xs each.1

pub filter_none : {X : Type 0} (test : X → Bool) (xs : List X) → AllByRecursion (λ x. test x ≡ false) xs → filter test xs ≡ []
filter_none test [] each = refl
filter_none test (x ∷ xs) each = ap (λ passes. cond passes (x ∷ filter test xs) (filter test xs)) each.0 ∙ filter_none test xs each.1

-- ---- firsts before and behind an owner and type

module _ (key : Key) where
  abbrev IsLess : Numbered → Type 0
  IsLess f = stands f key ≡ Less

  abbrev IsGreater : Numbered → Type 0
  IsGreater f = stands f key ≡ Greater

  pub rises_before : (fs : List Numbered) (i : ℕ) (f : Numbered) → AreRising fs → slice_get fs i ≡ Some f → stands f key ≡ Less → AllByRecursion (λ g. stands g key ≡ Less) (take (suc i) fs)
  rises_before [] i f rising at less = tt
  rises_before (x ∷ xs) zero f rising at less = let is : f ≡ x = cc in (subst IsLess is less, tt)
  rises_before (x ∷ xs) (suc i) f rising at less =
      (key_total.trans (key_of x.1) (key_of f.1) key (each_get (λ y. stands x (key_of y.1) ≡ Less) xs i f rising.0 at) less, rises_before xs i f rising.1 at less)

  pub rises_behind : (fs : List Numbered) (i : ℕ) (f : Numbered) → AreRising fs → slice_get fs i ≡ Some f → stands f key ≡ Greater → AllByRecursion (λ g. stands g key ≡ Greater) (drop i fs)
  rises_behind [] i f rising at greater = cc
  rises_behind (x ∷ xs) zero f rising at greater =
      let is : f ≡ x = cc in
      let here : stands x key ≡ Greater = subst IsGreater is greater in
      (here, each_kept (λ y. stands x (key_of y.1) ≡ Less) IsGreater xs (λ y less. behind_greater key_total (key_of x.1) (key_of y.1) key here less) rising.0)
  rises_behind (x ∷ xs) (suc i) f rising at greater = rises_behind xs i f rising.1 at greater

  -- around the one that ties
  pub up_to_tie : (fs : List Numbered) (i : ℕ) (f : Numbered) → AreRising fs → slice_get fs i ≡ Some f → stands f key ≡ Equal → AllByRecursion (λ g. stands g key ≢ Greater) (take (suc i) fs)
  up_to_tie [] i f rising at equal = tt
  up_to_tie (x ∷ xs) zero f rising at equal = let is : f ≡ x = cc in (equal_not_greater (stands x key) (subst (λ g. stands g key ≡ Equal) is equal), tt)
  up_to_tie (x ∷ xs) (suc i) f rising at equal = (
    less_not_greater (stands x key) (less_equal key_total (key_of x.1) (key_of f.1) key (each_get (λ y. stands x (key_of y.1) ≡ Less) xs i f rising.0 at) equal),
    up_to_tie xs i f rising.1 at equal,
  )

  pub behind_tie : (fs : List Numbered) (i : ℕ) (f : Numbered) → AreRising fs → slice_get fs i ≡ Some f → stands f key ≡ Equal → AllByRecursion (λ g. stands g key ≡ Greater) (drop (suc i) fs)
  behind_tie [] i f rising at equal = tt
  behind_tie (x ∷ xs) zero f rising at equal =
      let is : f ≡ x = cc in
      let here : stands x key ≡ Equal = subst (λ g. stands g key ≡ Equal) is equal in
      each_kept (λ y. stands x (key_of y.1) ≡ Less) IsGreater xs (λ y less. behind_equal key_total (key_of x.1) (key_of y.1) key here less) rising.0
  behind_tie (x ∷ xs) (suc i) f rising at equal = behind_tie xs i f rising.1 at equal

  pub place_at_tie : (fs : List Numbered) (i : ℕ) → AreRising fs → IsFound fs key (Ok i) → IsPlaceBehind fs key (i + 1)
  place_at_tie fs i rising found =
      let next : suc i ≡ i + 1 = omega arith in
      subst (IsPlaceBehind fs key) next (up_to_tie fs i found.0 rising found.1 found.2, behind_tie fs i found.0 rising found.1 found.2)

  pub place_between : (fs : List Numbered) (i : ℕ) → IsFound fs key (Err i) → IsPlaceBehind fs key i
  place_between fs i found = (each_kept IsLess (λ g. stands g key ≢ Greater) (take i fs) (λ g less. less_not_greater (stands g key) less) found.1, found.2)

  -- ---- groups

  no_tie : (firsts : List Numbered) (x : Numbered) → AllByRecursion (λ f. stands f key ≢ Equal) firsts → HasTie firsts x → stands x key ≢ Equal
  no_tie [] x none tie = absurd tie
  no_tie (f ∷ fs) x none (inl equal) = λ here. none.0 (key_total.congr (key_of f.1) (key_of x.1) key equal ∙ here)
  no_tie (f ∷ fs) x none (inr tie) = no_tie fs x none.1 tie

  pub no_group : (firsts all : List Numbered) → AllByRecursion (λ f. stands f key ≢ Equal) firsts → AllByRecursion (HasTie firsts) all → group_at all key ≡ []
  no_group firsts all none every =
      filter_none (λ x. is_eq (stands x key)) all (each_kept (HasTie firsts) (λ x. is_eq (stands x key) ≡ false) all (λ x tie. is_eq_false (stands x key) (no_tie firsts x none tie)) every)

  -- none of the firsts ties, where each is before or behind
  pub none_by_place : (fs : List Numbered) (i : ℕ) → AllByRecursion (λ f. stands f key ≡ Less) (take i fs) → AllByRecursion (λ f. stands f key ≡ Greater) (drop i fs) → AllByRecursion (λ f. stands f key ≢ Equal) fs
  none_by_place fs zero before behind = each_kept IsGreater (λ f. stands f key ≢ Equal) fs (λ f greater. greater_not_equal (stands f key) greater) behind
  none_by_place [] (suc i) before behind = tt
  none_by_place (f ∷ fs) (suc i) before behind = (less_not_equal (stands f key) before.0, none_by_place fs i before.1 behind)

pub group_at-same : (all : List Numbered) (a b : Key) → key_cmp a b ≡ Equal → group_at all a ≡ group_at all b
group_at-same all a b same =
    filter_agree (λ x. is_eq (stands x a)) (λ x. is_eq (stands x b)) (λ x. ap is_eq (alike_right key_total a b (key_of x.1) same)) all

-- ---- the same by the tests of names and types

same_number : (s t : ℕ) → (s == t) ≡ is_eq (nat_cmp s t)
same_number s t = grind (arith, nat_tests)

same_both : (o : Ordering) (s t : ℕ) → (is_eq o && (s == t)) ≡ is_eq (ordering_then o (nat_cmp s t))
same_both Equal s t = same_number s t
same_both o s t = refl

at_key : (a b : Labels) (s t : ℕ) → (same_name a b && (s == t)) ≡ is_eq (key_cmp (a, s) (b, t))
at_key a b s t = ap (λ same. same && (s == t)) (same_name_ties a b) ∙ same_both (canonical_cmp a b) s t

pub numbers_at-group : (rrsets : List ReceivedRrset) (name : Labels) (rtype : ℕ) → numbers_at rrsets name rtype ≡ map (λ (x : Numbered). x.0) (group_at (enumerate_from 1 rrsets) (name, rtype))
numbers_at-group rrsets name rtype =
    ap (map (λ (x : Numbered). x.0)) (filter_agree (λ (x : Numbered). same_name x.1.owner name && (x.1.rtype == rtype)) (λ (x : Numbered). is_eq (stands x (name, rtype))) (λ x. at_key x.1.owner name x.1.rtype rtype) (enumerate_from 1 rrsets))

then_first : (o p : Ordering) → ordering_then o p ≡ Equal → o ≡ Equal
then_first Equal p equal = refl
then_first o p equal = equal

pub key_names : (a b : Key) → key_cmp a b ≡ Equal → SameName a.0 b.0
key_names a b equal = canonical_Equal a.0 b.0 (then_first (canonical_cmp a.0 b.0) (nat_cmp a.1 b.1) equal)

pub key_equal : (a b : Key) → SameName a.0 b.0 → a.1 ≡ b.1 → key_cmp a b ≡ Equal
key_equal a b same alike =
    ap (λ o. ordering_then o (nat_cmp a.1 b.1)) (SameName_Equal a.0 b.0 same) ∙ ap (λ n. nat_cmp a.1 n) (sym alike) ∙ tied_itself nat_cmp_total a.1

-- RRsets of one type are of one owner and type where their owners are one
pub same_owner_ends : (last rrset : ReceivedRrset) (a b : Labels) (answer : Bool) → a ≡ last.owner → b ≡ rrset.owner → last.rtype ≡ rrset.rtype → (IsTrue answer ↔ SameName a b)
    → (IsTrue answer → key_cmp (key_of last) (key_of rrset) ≡ Equal) × (key_cmp (key_of last) (key_of rrset) ≡ Equal → IsTrue answer)
same_owner_ends last rrset a b answer first second alike decides = (
  λ yes_it_is. key_equal (key_of last) (key_of rrset) (ap lower_case (sym first) ∙ decides.0 yes_it_is ∙ ap lower_case second) alike,
  λ equal. decides.1 (ap lower_case first ∙ key_names (key_of last) (key_of rrset) equal ∙ ap lower_case (sym second)),
)
