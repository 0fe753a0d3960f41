-- The points of change of several signatures.
use Rattle.std.proofs.Common.{◌≡◌, ℕ, ◌+◌, ◌-◌, ◌%◌, ◌<◌, ◌≤◌, ◌⊎◌, ◌↔◌, inl, inr, List, [], ◌∷◌, ◌++◌, nat_eq, ◌∙◌, length, get_or, take, refl, sym, ap, subst, arith, ⊎_elim}
use Rattle.std.proofs.Math.Nat.{mod-eq_of_lt}
use Rattle.std.proofs.lemmas.List.{take_all, take_more}
use Rattle.std.proofs.lemmas.List.Elements.{Contains-append_left, Contains-push, Contains-push_cases}
use Rattle.std.proofs.lemmas.List.Kept.{Contains-dedup_nat, Contains-from_dedup}
use Rattle.std.proofs.lemmas.List.Sorted.{Contains-permutation, IsPermutation-sym}
use Rattle.std.proofs.lemmas.Map.Keys.{IsStrictlyIncreasing-dedup}
use Rattle.std.proofs.lemmas.Bool.{cases_eq, cases_lt}
use Rattle.std.specs.List.{Contains, dedup}
use Rattle.std.specs.List.Sorted.{IsPermutation, IsSorted, IsStrictlyIncreasing}
use Rattle.std.specs.Ordering.{nat_cmp}
use Rattle.dnsv_records.specs.Rrsig.Time.{ValidAt}
use Rattle.dnsv_timeline.specs.declared.times.Times.{Times}
use Rattle.dnsv_timeline.specs.Points.{ArePoints, Begins, Ends, IsChange, IsChangeWithin, IsPoint, IsValidAt}
use Rattle.dnsv_timeline.specs.Range.{IsRange}
use Rattle.dnsv_timeline.specs.Window.{AddsBehind, AddsChanges, AreChanges, IsWindow}
use Rattle.dnsv_timeline.proofs.CircleLemmas.{on, on_below}
use Rattle.dnsv_timeline.proofs.WindowLemmas.{begins_where, behind_moment, changes_at, ends_where, moment_behind}

-- a signature that is never valid changes nowhere
pub none_changes : (from to : ℕ) (times : Times) (moments : List ℕ) → ((moment : ℕ) → IsValidAt times moment → ⊥)
    → AddsChanges from to times moments moments
none_changes from to times moments never = record {
  members = λ moment. (
    λ found. inl found,
    λ either. ⊎_elim (λ (old : Contains moments moment). old)
        (λ (change : IsChangeWithin from to times moment). ⊎_elim (λ (begins : Begins times moment). absurd (never moment begins.1))
        (λ (ends : Ends times moment). absurd (never (moment - 1) ends.0)) change.changes) either,
  );
}

-- where a moment stands behind the first one of the range
in_window : (from to : ℕ) (times : Times) (start end seconds : ℕ) → IsRange from to → IsWindow times start end
    → 0 < seconds → seconds ≤ to - from
    → (seconds ≡ on 4294967296 (on 4294967296 times.inception.0 from) start) ⊎ (seconds ≡ on 4294967296 (on 4294967296 times.inception.0 from) end)
    → IsChangeWithin from to times (from + seconds)
in_window from to times start end seconds range window some few which =
    let before : from + seconds ≡ (from + (seconds - 1)) + 1 = omega arith in
    let turned = range.turned in
    let small = window.small in
    let less = window.some in
    let changes : IsChange times ((from + (seconds - 1)) + 1) =
    ⊎_elim (λ (e : seconds ≡ on 4294967296 (on 4294967296 times.inception.0 from) start).
    let there : on 4294967296 times.inception.0 (from + seconds) ≡ start =
    subst (λ (s : ℕ). on 4294967296 times.inception.0 (from + s) ≡ start) (sym e)
    (moment_behind 4294967296 times.inception.0 from start (omega arith)) in
    begins_where times start end (from + (seconds - 1)) window
    (subst (λ (m : ℕ). on 4294967296 times.inception.0 m ≡ start) before there))
    (λ (e : seconds ≡ on 4294967296 (on 4294967296 times.inception.0 from) end).
    let there : on 4294967296 times.inception.0 (from + seconds) ≡ end =
    subst (λ (s : ℕ). on 4294967296 times.inception.0 (from + s) ≡ end) (sym e)
    (moment_behind 4294967296 times.inception.0 from end (omega arith)) in
    ends_where times start end (from + (seconds - 1)) window
    (subst (λ (m : ℕ). on 4294967296 times.inception.0 m ≡ end) before there))
    which in
    record {
      behind = omega (arith, some);
      within = omega (arith, few, turned);
      changes = subst (IsChange times) (sym before) changes;
    }

-- each change within the range stands there
stands_behind : (from to : ℕ) (times : Times) (start end moment : ℕ) → IsRange from to → IsWindow times start end
    → IsChangeWithin from to times moment
    → (moment - from ≡ on 4294967296 (on 4294967296 times.inception.0 from) start) ⊎ (moment - from ≡ on 4294967296 (on 4294967296 times.inception.0 from) end)
stands_behind from to times start end moment range window change =
    let behind = change.behind in
    let within = change.within in
    let long = range.long in
    let small = window.small in
    let less = window.some in
    let next : moment ≡ (moment - 1) + 1 = omega arith in
    let there : moment ≡ from + (moment - from) = omega arith in
    ⊎_elim (λ (e : on 4294967296 times.inception.0 ((moment - 1) + 1) ≡ start).
    inl (behind_moment 4294967296 times.inception.0 from start (moment - from) (omega arith) (omega arith) (omega arith)
    (subst (λ (m : ℕ). on 4294967296 times.inception.0 m ≡ start) (sym next ∙ there) e)))
    (λ (e : on 4294967296 times.inception.0 ((moment - 1) + 1) ≡ end).
    inr (behind_moment 4294967296 times.inception.0 from end (moment - from) (omega arith) (omega arith) (omega arith)
    (subst (λ (m : ℕ). on 4294967296 times.inception.0 m ≡ end) (sym next ∙ there) e)))
    (changes_at times start end (moment - 1) window (subst (IsChange times) next change.changes))

-- the window's begin and end, each so many seconds behind the first moment
pub both_there : (from to : ℕ) (times : Times) (start end : ℕ) (old some new : List ℕ) → IsRange from to → IsWindow times start end
    → AddsBehind from (to - from) (on 4294967296 (on 4294967296 times.inception.0 from) start) old some
    → AddsBehind from (to - from) (on 4294967296 (on 4294967296 times.inception.0 from) end) some new
    → AddsChanges from to times old new
both_there from to times start end old some new range window first second = record {
  members = λ moment. (
    λ found. ⊎_elim (λ (among : Contains some moment).
        ⊎_elim (λ (before : Contains old moment). inl before)
        (λ (added : (0 < on 4294967296 (on 4294967296 times.inception.0 from) start) × (on 4294967296 (on 4294967296 times.inception.0 from) start ≤ to - from) × (moment ≡ from + on 4294967296 (on 4294967296 times.inception.0 from) start)).
        inr (subst (IsChangeWithin from to times) (sym added.2)
        (in_window from to times start end _ range window added.0 added.1 (inl refl))))
        ((first.members moment).0 among))
        (λ (added : (0 < on 4294967296 (on 4294967296 times.inception.0 from) end) × (on 4294967296 (on 4294967296 times.inception.0 from) end ≤ to - from) × (moment ≡ from + on 4294967296 (on 4294967296 times.inception.0 from) end)).
        inr (subst (IsChangeWithin from to times) (sym added.2)
        (in_window from to times start end _ range window added.0 added.1 (inr refl))))
        ((second.members moment).0 found),
    λ either. ⊎_elim (λ (before : Contains old moment). (second.members moment).1 (inl ((first.members moment).1 (inl before))))
        (λ (change : IsChangeWithin from to times moment).
        let behind = change.behind in
        let within = change.within in
        ⊎_elim (λ (e : moment - from ≡ on 4294967296 (on 4294967296 times.inception.0 from) start).
        (second.members moment).1 (inl ((first.members moment).1 (inr (omega (arith, e), omega (arith, e), omega (arith, e))))))
        (λ (e : moment - from ≡ on 4294967296 (on 4294967296 times.inception.0 from) end).
        (second.members moment).1 (inr (omega (arith, e), omega (arith, e), omega (arith, e))))
        (stands_behind from to times start end moment range window change))
        either,
  );
}

-- the same, where the first moment is so many seconds behind the inception
pub both_change : (from to : ℕ) (times : Times) (start end : ℕ) (old some new : List ℕ) (since here : ℕ) → IsRange from to
    → IsWindow times start end → since ≡ on 4294967296 times.inception.0 here → here ≡ from
    → AddsBehind from (to - from) ((start + (4294967296 - since)) % 4294967296) old some
    → AddsBehind from (to - from) ((end + (4294967296 - since)) % 4294967296) some new
    → AddsChanges from to times old new
both_change from to times start end old some new since here range window is at one other =
    let e : since ≡ on 4294967296 times.inception.0 from = is ∙ ap (λ (m : ℕ). on 4294967296 times.inception.0 m) at in
    let small : since < 4294967296 = let below = on_below 4294967296 times.inception.0 here (omega arith) in omega (arith, is, below) in
    let whole : since ≡ since % 4294967296 = sym (mod-eq_of_lt small) in
    let to_start : (start + (4294967296 - since)) % 4294967296 ≡ on 4294967296 (on 4294967296 times.inception.0 from) start =
    ap (λ (s : ℕ). (start + (4294967296 - s)) % 4294967296) whole ∙ ap (λ (s : ℕ). on 4294967296 s start) e in
    let to_end : (end + (4294967296 - since)) % 4294967296 ≡ on 4294967296 (on 4294967296 times.inception.0 from) end =
    ap (λ (s : ℕ). (end + (4294967296 - s)) % 4294967296) whole ∙ ap (λ (s : ℕ). on 4294967296 s end) e in
    both_there from to times start end old some new range window
    (subst (λ (s : ℕ). AddsBehind from (to - from) s old some) to_start one)
    (subst (λ (s : ℕ). AddsBehind from (to - from) s some new) to_end other)

-- ---- one signature after another

none_there : (from to : ℕ) → AreChanges from to [] []
none_there from to moment = (λ found. absurd (omega (arith, found.1)), λ point. absurd (omega (arith, point.1.1)))

pub no_points : (from to : ℕ) (none : List ℕ) → none ≡ [] → AreChanges from to [] none
no_points from to none empty = subst (AreChanges from to []) (sym empty) (none_there from to)

pub points_more : (from to : ℕ) (all : List Times) (i : ℕ) (other : Times) (old new : List ℕ) → i < length all
    → AreChanges from to (take i all) old → AddsChanges from to (get_or all i other) old new → AreChanges from to (take (i + 1) all) new
points_more from to all i other old new below are adds moment =
    let longer : take (i + 1) all ≡ take i all ++ get_or all i other ∷ [] = take_more all i other below in
    let Points : List Times → Type 0 = λ some. IsPoint from to some moment in (
      λ found. subst Points (sym longer) (⊎_elim (λ (before : Contains old moment). let point = (are moment).0 before in
          (point.0, Contains-append_left (take i all) (get_or all i other ∷ []) point.0 point.1, point.2))
          (λ (change : IsChangeWithin from to (get_or all i other) moment). (get_or all i other, Contains-push (take i all) (get_or all i other), change))
          ((adds.members moment).0 found)),
      λ point. let there : Points (take i all ++ get_or all i other ∷ []) = subst Points longer point in
          ⊎_elim (λ (before : Contains (take i all) there.0). (adds.members moment).1 (inl ((are moment).1 (there.0, before, there.2))))
          (λ (same : get_or all i other ≡ there.0). (adds.members moment).1
          (inr (subst (λ (times : Times). IsChangeWithin from to times moment) (sym same) there.2)))
          (Contains-push_cases (take i all) (get_or all i other) there.0 there.1),
    )

pub points_all : (from to : ℕ) (all : List Times) (i : ℕ) (moments : List ℕ) → length all ≤ i → AreChanges from to (take i all) moments
    → AreChanges from to all moments
points_all from to all i moments end are = subst (λ (some : List Times). AreChanges from to some moments) (take_all i all end) are

-- in order, each once
pub in_order : (from to : ℕ) (signatures : List Times) (all sorted kept : List ℕ) → AreChanges from to signatures all → IsPermutation all sorted
    → IsSorted nat_cmp sorted → kept ≡ dedup (λ x y. nat_eq x y) sorted → ArePoints from to signatures kept
in_order from to signatures all sorted kept are moves ordered is = record {
  rising = subst IsStrictlyIncreasing (sym is) (IsStrictlyIncreasing-dedup sorted ordered);
  members = λ moment. (
    λ found. (are moment).0 (Contains-permutation sorted all moment (IsPermutation-sym all sorted moves)
        (Contains-from_dedup nat_eq sorted moment (subst (λ (some : List ℕ). Contains some moment) is found))),
    λ point. subst (λ (some : List ℕ). Contains some moment) (sym is)
        (Contains-dedup_nat sorted moment (Contains-permutation all sorted moment moves ((are moment).1 point))),
  );
}
