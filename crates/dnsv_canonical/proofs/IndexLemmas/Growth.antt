-- RRsets in order, and an index that takes them one by one.
use Rattle.std.proofs.Common.{◌≡◌, ◌≢◌, ◌⊎◌, inl, inr, ℕ, zero, suc, ◌+◌, ◌-◌, ◌<◌, ◌≤◌, Bool, true, false, not, ◌&&◌, List, [], ◌∷◌, ◌++◌, length, get_or, map, take, drop, refl, sym, ap, ◌∙◌, subst, arith, append_assoc, length-append}
use Rattle.std.proofs.lemmas.List.{append-nil, drop-drop, drop_all, get_or-take, get_or_read, length-take, length-take-le}
use Rattle.std.proofs.lemmas.List.Elements.{All-from_recursion, filter-append, filter_agree, recursion_from_All}
use Rattle.std.proofs.lemmas.List.Sorted.{All-permutation, IsPermutation-sym, length_permutation, ranks_by, sorted_far}
use Rattle.std.proofs.lemmas.Cmp.{upto}
use Rattle.std.proofs.lemmas.Option.{slice_get_within}
use Rattle.std.specs.Prelude.{Some, slice_get}
use Rattle.std.specs.List.{AllByRecursion, enumerate_from}
use Rattle.std.specs.List.Sorted.{IsPermutation, IsSortedBy, IsStableBy, ties}
use Rattle.std.specs.Ordering.{is_eq, is_gt, is_lt, ordering_reverse}
use Rattle.std.specs.declared.cmp.Ordering.{Ordering}
use Rattle.std.specs.declared.cmp.Ordering.TheVariants.{Less, Greater}
use Rattle.dnsv_names.specs.PartLaws.{recursion-append}
use Rattle.dnsv_canonical.specs.Rrsets.{ReceivedRrset}
use Rattle.dnsv_canonical.specs.Index.Grouping.{AreFirsts, AreInOrder, AreLaid, HasTie, IsIndexOf, IsPlaceBehind, IsPlaceFrom, Key, Numbered, group_of, key_cmp, key_of, stands}
use Rattle.dnsv_canonical.specs.Index.Merging.{IsMerged}
use Rattle.dnsv_canonical.specs.declared.capture.index.merged.Merged.{Merged}
use Rattle.dnsv_canonical.proofs.ListLemmas.{each_front, each_behind}
use Rattle.dnsv_canonical.proofs.OrderLemmas.{each_kept, take_next}
use Rattle.dnsv_canonical.proofs.IndexLemmas.InOrder.{each_drop, each_take, key_total, turned_back}

-- ---- numbers

enumerate-append : (n : ℕ) (xs ys : List ReceivedRrset) → enumerate_from n (xs ++ ys) ≡ enumerate_from n xs ++ enumerate_from (n + length xs) ys
enumerate-append n [] ys = ap (λ k. enumerate_from k ys) (omega arith)
enumerate-append n (x ∷ xs) ys =
    let same : n + 1 + length xs ≡ n + suc (length xs) = omega arith in
    ap (λ rest. (n, x) ∷ rest) (enumerate-append (n + 1) xs ys ∙ ap (λ k. enumerate_from (n + 1) xs ++ enumerate_from k ys) same)

pub numbered_more : (n : ℕ) (xs : List ReceivedRrset) (i : ℕ) (x : ReceivedRrset) → slice_get xs i ≡ Some x → enumerate_from n (take (i + 1) xs) ≡ enumerate_from n (take i xs) ++ (n + i, x) ∷ []
numbered_more n xs i x at =
    let count : length (take i xs) ≡ i = length-take-le i xs (omega (arith, slice_get_within xs i x at)) in
    ap (enumerate_from n) (take_next xs i x at) ∙ enumerate-append n (take i xs) (x ∷ []) ∙ ap (λ k. enumerate_from n (take i xs) ++ (n + k, x) ∷ []) count

-- ---- the order

abbrev is_before : Numbered → Numbered → Bool
is_before a b = is_lt (stands a (key_of b.1))

ties_both : (o : Ordering) → (not (is_lt (ordering_reverse o)) && not (is_lt o)) ≡ is_eq o
ties_both Less = refl
ties_both o = refl

ties_key : (a b : Key) → (not (is_lt (key_cmp a b)) && not (is_lt (key_cmp b a))) ≡ is_eq (key_cmp b a)
ties_key a b = ap (λ o. not (is_lt o) && not (is_lt (key_cmp b a))) (key_total.antisymm a b) ∙ ties_both (key_cmp b a)

pub in_order_from : (all sorted : List Numbered) → IsPermutation all sorted → IsSortedBy (λ a b. is_lt (stands a (key_of b.1))) sorted → IsStableBy (λ a b. is_lt (stands a (key_of b.1))) all sorted → AreInOrder all sorted
in_order_from all sorted same rising stable = record {
  same = same;
  rising = rising;
  groups = λ x.
      filter_agree (λ y. is_eq (stands y (key_of x.1))) (ties is_before x) (λ y. sym (ties_key (key_of x.1) (key_of y.1))) sorted
      ∙ stable x ∙ filter_agree (ties is_before x) (λ y. is_eq (stands y (key_of x.1))) (λ y. ties_key (key_of x.1) (key_of y.1)) all;
}

not_gt : (r : Ordering) → r ≢ Greater → is_gt r ≡ false
not_gt Greater never = absurd (never refl)
not_gt r never = refl

from_not_gt : (r : Ordering) → is_gt r ≡ false → r ≢ Greater
from_not_gt r not_greater greater = let turn : true ≡ false = ap is_gt (sym greater) ∙ not_greater in cc

-- what isn't behind one that isn't behind the third
pub up_to_third : (a b c : Key) → key_cmp a b ≢ Greater → key_cmp b c ≢ Greater → key_cmp a c ≢ Greater
up_to_third a b c first second = from_not_gt (key_cmp a c) (upto key_total a b c (not_gt (key_cmp a b) first) (not_gt (key_cmp b c) second))

not_before : (a b : Key) → is_lt (key_cmp a b) ≡ false → key_cmp b a ≢ Greater
not_before a b not_less greater = let turn : true ≡ false = ap is_lt (sym (turned_back key_total b a greater)) ∙ not_less in cc

pub earlier : (items : List Numbered) (i : ℕ) (x : Numbered) → IsSortedBy (λ a b. is_lt (stands a (key_of b.1))) items → i < length items → x ≡ get_or items i x → AllByRecursion (λ y. stands y (key_of x.1) ≢ Greater) (take i items)
earlier items i x rising within is =
    recursion_from_All (λ (y : Numbered). stands y (key_of x.1) ≢ Greater) (take i items) (λ k d below.
    let before : k < i = omega (arith, below, length-take i items) in
    let far = sorted_far is_before (ranks_by key_total (λ (y : Numbered). key_of y.1)) items rising k i d (omega (arith, before)) within in
    let here : get_or items i d ≡ x = sym (get_or_read items i x within is d) in
    let there : get_or items k d ≡ get_or (take i items) k d = sym (get_or-take i items k d before) in
    not_before (key_of x.1) (key_of (get_or (take i items) k d).1) ((λ j. is_before (sym here j) (sym there j)) ∙ far))

-- ---- a step

pub each_part : {X : Type 0} (P : X → Type 0) (c p : ℕ) (xs : List X) → AllByRecursion P (take p xs) → AllByRecursion P (take (p - c) (drop c xs))
each_part P zero p xs each = let same : p ≡ p - 0 = omega arith in subst (λ n. AllByRecursion P (take n xs)) same each
each_part P (suc c) zero xs each = let none : 0 ≡ 0 - suc c = omega arith in subst (λ n. AllByRecursion P (take n (drop (suc c) xs))) none tt
each_part P (suc c) (suc p) [] each = each_take P (suc p - suc c) [] tt
each_part P (suc c) (suc p) (x ∷ xs) each = let same : p - c ≡ suc p - suc c = omega arith in subst (λ n. AllByRecursion P (take n (drop c xs))) same (each_part P c p xs each.1)

-- a place among all groups is one among those from another place on
pub place_from_all : (kept : List Numbered) (key : Key) (c p : ℕ) → IsPlaceBehind kept key p → IsPlaceFrom kept key c p
place_from_all kept key c p place = (each_part (λ (f : Numbered). stands f key ≢ Greater) c p kept place.0, place.1)

-- behind all groups
pub place_past : (kept : List Numbered) (key : Key) (c p : ℕ) → length kept ≤ c → length kept ≤ p → IsPlaceFrom kept key c p
place_past kept key c p copied past = (
  each_take (λ (f : Numbered). stands f key ≢ Greater) (p - c) (drop c kept) (subst (AllByRecursion (λ (f : Numbered). stands f key ≢ Greater)) (sym (drop_all c kept copied)) tt),
  subst (AllByRecursion (λ (f : Numbered). stands f key ≡ Greater)) (sym (drop_all p kept past)) tt,
)

-- right behind those that are copied
pub place_here : (kept : List Numbered) (key : Key) (c : ℕ) → AllByRecursion (λ f. stands f key ≡ Greater) (drop c kept) → IsPlaceFrom kept key c c
place_here kept key c greater =
    let none : 0 ≡ c - c = omega arith in (subst (λ n. AllByRecursion (λ (f : Numbered). stands f key ≢ Greater) (take n (drop c kept))) none tt, greater)

pub is_greater : (r : Ordering) → is_gt r ≡ true → r ≡ Greater
is_greater Greater gt = refl
is_greater r gt = let turn : false ≡ true = gt in cc

pub each_rest : {X : Type 0} (P : X → Type 0) (p n : ℕ) (xs : List X) → p ≤ n → AllByRecursion P (drop p xs) → AllByRecursion P (drop n xs)
each_rest P p n xs above each =
    let sum : p + (n - p) ≡ n = omega (arith, above) in
    subst (AllByRecursion P) (drop-drop (n - p) p xs ∙ ap (λ k. drop k xs) sum) (each_drop P (n - p) (drop p xs) each)

-- the firsts aren't behind what none of these RRsets is behind
abbrev pub AreUpTo : List Numbered → List Numbered → Type 0
AreUpTo items firsts =
    (y : Numbered) → AllByRecursion (λ x. stands x (key_of y.1) ≢ Greater) items → AllByRecursion (λ f. stands f (key_of y.1) ≢ Greater) firsts

pub up_to_here : (items firsts kept : List Numbered) (c p : ℕ) (x : Numbered) → AreUpTo items firsts → AllByRecursion (λ y. stands y (key_of x.1) ≢ Greater) items → IsPlaceFrom kept (key_of x.1) c p
    → AllByRecursion (λ f. stands f (key_of x.1) ≢ Greater) (firsts ++ take (p - c) (drop c kept))
up_to_here items firsts kept c p x up_to before place =
    recursion-append (λ (f : Numbered). stands f (key_of x.1) ≢ Greater) firsts (take (p - c) (drop c kept)) (up_to x before) place.0

pub up_to_next : (items firsts : List Numbered) (x : Numbered) → AllByRecursion (λ f. stands f (key_of x.1) ≢ Greater) firsts → AreUpTo (items ++ x ∷ []) firsts
up_to_next items firsts x here = λ y all.
    let third = (each_behind (λ (z : Numbered). stands z (key_of y.1) ≢ Greater) items (x ∷ []) all).0 in
    each_kept (λ (f : Numbered). stands f (key_of x.1) ≢ Greater) (λ (f : Numbered). stands f (key_of y.1) ≢ Greater) firsts (λ f up_to. up_to_third (key_of f.1) (key_of x.1) (key_of y.1) up_to third) here

-- what holds while the RRsets are taken: so many are
pub record IsTaken (held kept items : List Numbered) (taken : ℕ) (merged : Merged) : Type 0 where
  pub firsts : List Numbered
  pub made : IsMerged held kept (held ++ take taken items) firsts merged
  pub up_to : AreUpTo (take taken items) firsts

pub none_taken : (held kept items : List Numbered) (merged : Merged) → IsMerged held kept held [] merged → IsTaken held kept items 0 merged
none_taken held kept items merged made = record {
  firsts = [];
  made = subst (λ all. IsMerged held kept all [] merged) (sym (append-nil held)) made;
  up_to = λ y all. tt;
}

pub one_taken : (held kept items firsts : List Numbered) (i : ℕ) (x : Numbered) (merged : Merged) → slice_get items i ≡ Some x → AllByRecursion (λ f. stands f (key_of x.1) ≢ Greater) firsts
    → IsMerged held kept ((held ++ take i items) ++ x ∷ []) firsts merged ⊎ IsMerged held kept ((held ++ take i items) ++ x ∷ []) (firsts ++ x ∷ []) merged → IsTaken held kept items (i + 1) merged
one_taken held kept items firsts i x merged at here made =
    let next : take (i + 1) items ≡ take i items ++ x ∷ [] = take_next items i x at in
    let all : (held ++ take i items) ++ x ∷ [] ≡ held ++ take (i + 1) items = append_assoc held (take i items) (x ∷ []) ∙ ap (λ xs. held ++ xs) (sym next) in
    taken all next made where
      taken : (held ++ take i items) ++ x ∷ [] ≡ held ++ take (i + 1) items → take (i + 1) items ≡ take i items ++ x ∷ [] → IsMerged held kept ((held ++ take i items) ++ x ∷ []) firsts merged ⊎ IsMerged held kept ((held ++ take i items) ++ x ∷ []) (firsts ++ x ∷ []) merged → IsTaken held kept items (i + 1) merged
      taken all next (inl made) = record {
        firsts = firsts;
        made = subst (λ xs. IsMerged held kept xs firsts merged) all made;
        up_to = subst (λ xs. AreUpTo xs firsts) (sym next) (up_to_next (take i items) firsts x here);
      }
      taken all next (inr made) = record {
        firsts = firsts ++ x ∷ [];
        made = subst (λ xs. IsMerged held kept xs (firsts ++ x ∷ []) merged) all made;
        up_to = subst (λ xs. AreUpTo xs (firsts ++ x ∷ [])) (sym next)
            (up_to_next (take i items) (firsts ++ x ∷ []) x (recursion-append (λ (f : Numbered). stands f (key_of x.1) ≢ Greater) firsts (x ∷ []) here (itself, tt)));
      } where
        itself : stands x (key_of x.1) ≢ Greater
        itself greater = let turn : Greater ≡ Less = sym greater ∙ turned_back key_total (key_of x.1) (key_of x.1) greater in cc

-- ---- the end

module _ (held all sorted : List Numbered) (order : AreInOrder all sorted) where
  regrouped : (f : Numbered) → group_of (held ++ sorted) f ≡ group_of (held ++ all) f
  regrouped f =
      filter-append (λ y. is_eq (stands y (key_of f.1))) held sorted ∙ ap (λ group. group_of held f ++ group) (order.groups f)
      ∙ sym (filter-append (λ y. is_eq (stands y (key_of f.1))) held all)

  begin_alike : (fs : List Numbered) → AllByRecursion (λ f. (others : List Numbered) × (group_of (held ++ sorted) f ≡ f ∷ others)) fs → AllByRecursion (λ f. (others : List Numbered) × (group_of (held ++ all) f ≡ f ∷ others)) fs
  begin_alike [] each = tt
  begin_alike (f ∷ fs) each = ((each.0.0, sym (regrouped f) ∙ each.0.1), begin_alike fs each.1)

  firsts_alike : (fs : List Numbered) → AreFirsts (held ++ sorted) fs → AreFirsts (held ++ all) fs
  firsts_alike fs are = record {
    rising = are.rising;
    each = begin_alike fs are.each;
    every = recursion-append (HasTie fs) held all (each_front (HasTie fs) held sorted are.every)
        (recursion_from_All (HasTie fs) all (All-permutation (HasTie fs) sorted all (IsPermutation-sym all sorted order.same) (All-from_recursion (HasTie fs) sorted (each_behind (HasTie fs) held sorted are.every))));
    few = omega (arith, are.few, length-append held sorted, length-append held all, length_permutation all sorted order.same);
  }

  laid_alike : (fs : List Numbered) (numbers starts : List ℕ) → AreLaid (map (group_of (held ++ sorted)) fs) numbers starts → AreLaid (map (group_of (held ++ all)) fs) numbers starts
  laid_alike fs numbers starts laid = subst (λ gs. AreLaid gs numbers starts) (λ i. map (λ f. regrouped f i) fs) laid

pub grown_index : (held more : List ReceivedRrset) (kept items firsts : List Numbered) (merged : Merged) → AreInOrder (enumerate_from (length held + 1) more) items → IsMerged (enumerate_from 1 held) kept (enumerate_from 1 held ++ items) firsts merged → length kept ≤ merged.copied
    → IsIndexOf (held ++ more) merged.index.numbers.items merged.index.starts.items
grown_index held more kept items firsts merged order made copied =
    let H = enumerate_from 1 held in
    let E = enumerate_from (length held + 1) more in
    let turn : length held + 1 ≡ 1 + length held = omega arith in
    let all : enumerate_from 1 held ++ enumerate_from (length held + 1) more ≡ enumerate_from 1 (held ++ more) =
    ap (λ n. enumerate_from 1 held ++ enumerate_from n more) turn ∙ sym (enumerate-append 1 held more) in
    let none : firsts ++ drop merged.copied kept ≡ firsts = ap (λ rest. firsts ++ rest) (drop_all merged.copied kept copied) ∙ append-nil firsts in
    record {
      firsts = firsts;
      are = subst (λ xs. AreFirsts xs firsts) all (firsts_alike H E items order firsts (subst (AreFirsts (enumerate_from 1 held ++ items)) none made.are));
      laid = subst (λ xs. AreLaid (map (group_of xs) firsts) merged.index.numbers.items merged.index.starts.items) all (laid_alike H E items order firsts merged.index.numbers.items merged.index.starts.items made.laid);
    }
