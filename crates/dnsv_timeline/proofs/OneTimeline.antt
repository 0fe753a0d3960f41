-- There is exactly one timeline.
use Rattle.std.proofs.Common.{◌≡◌, ℕ, zero, suc, ◌+◌, ◌-◌, ◌<◌, ◌≤◌, ◌⊎◌, inl, inr, Bool, true, List, [], ◌∷◌, ◌++◌, refl, sym, ap, ◌∙◌, subst, arith, ⊎_elim}
use Rattle.std.proofs.lemmas.Bool.{cases_lt}
use Rattle.std.specs.Prelude.{◌≢◌, ◌↔◌}
use Rattle.std.specs.List.{AllByRecursion}
use Rattle.dnsv_timeline.specs.declared.stretch.Stretch.{Stretch}
use Rattle.dnsv_timeline.specs.Joined.{up_to}
use Rattle.dnsv_timeline.specs.Timeline.{AreSaid, AreWithoutGap, DiffersFrom, IsJust, IsTimelineBy, IsTimelineOf, NeighboursDiffer}
use Rattle.dnsv_timeline.proofs.StretchLemmas.{begins_anew, gap_split, goes_on, one_moment, said_split}

-- ---- at most one

-- stretches end before what is behind them
pub gap_within : {S : Type 0} (from behind : ℕ) (xs : List (Stretch S)) → AreWithoutGap from behind xs → from ≤ behind
gap_within from behind [] gap = omega (arith, gap)
gap_within from behind (x ∷ xs) gap = let rest = gap_within (x.to + 1) behind xs gap.2 in omega (arith, gap.0, gap.1, rest)

differs_tail : {S : Type 0} (said : S) (xs : List (Stretch S)) → DiffersFrom said xs → NeighboursDiffer xs
differs_tail said [] d = tt
differs_tail said (x ∷ xs) d = d.1

-- at most one thing is said at a moment
abbrev pub IsOneSaid : {S : Type 0} → (ℕ → S → Type 0) → Type 0
IsOneSaid {S} Said = (moment : ℕ) (one other : S) → Said moment one → Said moment other → one ≡ other

module _ {S : Type 0} (Said : ℕ → S → Type 0) (one : IsOneSaid Said) where
  -- a neighbour that says the same isn't there
  no_neighbour : (what : S) (from behind : ℕ) (xs : List (Stretch S)) → AreWithoutGap from behind xs
      → AreSaid Said xs → DiffersFrom what xs → from < behind → Said from what → ⊥
  no_neighbour what from behind [] gap each differ before same = omega (arith, gap, before)
  no_neighbour what from behind (x ∷ xs) gap each differ before same =
      differ.0 (one from what x.said same (each.0 from (omega (arith, gap.0)) (omega (arith, gap.0, gap.1))))

  -- one stretch doesn't end before the other
  not_longer : (from behind : ℕ) (x y : Stretch S) (xs ys : List (Stretch S))
      → AreWithoutGap from behind (x ∷ xs) → AreWithoutGap from behind (y ∷ ys) → AreSaid Said (x ∷ xs) → AreSaid Said (y ∷ ys)
      → DiffersFrom x.said xs → x.to < y.to → ⊥
  not_longer from behind x y xs ys first second each other differ less =
      let inside = gap_within (y.to + 1) behind ys second.2 in
      let at_first : Said from x.said = each.0 from (omega (arith, first.0)) (omega (arith, first.0, first.1)) in
      let at_second : Said from y.said = other.0 from (omega (arith, second.0)) (omega (arith, second.0, second.1)) in
      let next : Said (x.to + 1) y.said = other.0 (x.to + 1) (omega (arith, first.0, first.1, second.0)) (omega (arith, less)) in
      no_neighbour x.said (x.to + 1) behind xs first.2 each.1 differ (omega (arith, less, inside))
      (subst (λ (what : S). Said (x.to + 1) what) (one from y.said x.said at_second at_first) next)

  one_list : (from behind : ℕ) (xs ys : List (Stretch S)) → AreWithoutGap from behind xs → AreWithoutGap from behind ys
      → AreSaid Said xs → AreSaid Said ys → NeighboursDiffer xs → NeighboursDiffer ys → xs ≡ ys
  one_list from behind [] [] first second each other differ differs = refl
  one_list from behind [] (y ∷ ys) first second each other differ differs =
      let inside = gap_within (y.to + 1) behind ys second.2 in absurd (omega (arith, first, second.0, second.1, inside))
  one_list from behind (x ∷ xs) [] first second each other differ differs =
      let inside = gap_within (x.to + 1) behind xs first.2 in absurd (omega (arith, second, first.0, first.1, inside))
  one_list from behind (x ∷ xs) (y ∷ ys) first second each other differ differs =
      let begin : x.from ≡ y.from = first.0 ∙ sym second.0 in
      let end : x.to ≡ y.to =
      ⊎_elim (λ (less : x.to < y.to). absurd (not_longer from behind x y xs ys first second each other differ less))
      (λ (more : y.to ≤ x.to).
      ⊎_elim (λ (less : y.to < x.to). absurd (not_longer from behind y x ys xs second first other each differs less))
      (λ (equal : x.to ≤ y.to). omega (arith, more, equal))
      (cases_lt y.to x.to))
      (cases_lt x.to y.to) in
      let at_first : Said from x.said = each.0 from (omega (arith, first.0)) (omega (arith, first.0, first.1)) in
      let at_second : Said from y.said = other.0 from (omega (arith, second.0)) (omega (arith, second.0, second.1)) in
      let what : x.said ≡ y.said = one from x.said y.said at_first at_second in
      let rest : xs ≡ ys = one_list (x.to + 1) behind xs ys first.2
      (subst (λ (m : ℕ). AreWithoutGap (m + 1) behind ys) (sym end) second.2) each.1 other.1
      (differs_tail x.said xs differ) (differs_tail y.said ys differs) in
      λ i. record { from = begin i; to = end i; said = what i } ∷ rest i

  pub one_by : (from to : ℕ) (xs ys : List (Stretch S)) → IsTimelineBy Said from to xs → IsTimelineBy Said from to ys → xs ≡ ys
  one_by from to xs ys first second =
      one_list from (to + 1) xs ys first.without_gap second.without_gap first.each second.each first.differ second.differ

pub one_timeline : {S : Type 0} (said : ℕ → S) (from to : ℕ) (xs ys : List (Stretch S)) → IsTimelineOf said from to xs
    → IsTimelineOf said from to ys → xs ≡ ys
one_timeline said from to xs ys first second =
    one_by (IsJust said) (λ moment one other is same. sym is ∙ same) from to xs ys first second

-- ---- at least one

-- a timeline, its last stretch by itself
record HasTimeline {S : Type 0} (said : ℕ → S) (from to : ℕ) : Type 0 where
  stretches : List (Stretch S)
  last : Stretch S
  ends : last.to ≡ to
  is : IsTimelineOf said from to (stretches ++ last ∷ [])

-- one moment more
timeline_more : {S : Type 0} (said : ℕ → S) (from to : ℕ) → ((a b : S) → (a ≡ b) ⊎ (a ≢ b)) → HasTimeline said from to
    → HasTimeline said from (to + 1)
timeline_more {S} said from to decide has =
    let last_to = has.ends in
    let timeline : IsTimelineOf said from has.last.to (has.stretches ++ has.last ∷ []) =
    subst (λ (m : ℕ). IsTimelineOf said from m (has.stretches ++ has.last ∷ [])) (sym last_to) has.is in
    let gap = gap_split from (to + 1) has.stretches has.last has.is.without_gap in
    let each = said_split (IsJust said) has.stretches has.last has.is.each in
    let now : said to ≡ has.last.said = each.1 to (omega (arith, gap.1, last_to)) (omega (arith, last_to)) in
    ⊎_elim (λ (same : said (to + 1) ≡ said to). record {
      stretches = has.stretches;
      last = up_to has.last (to + 1);
      ends = refl;
      is = goes_on (IsJust said) from (to + 1) has.stretches has.last timeline (omega (arith, last_to))
          (λ moment behind until. ⊎_elim (λ (less : moment < to + 1). let at : moment ≡ to = omega (arith, less, behind, last_to) in ap said at ∙ now)
          (λ (more : to + 1 ≤ moment). let at : moment ≡ to + 1 = omega (arith, more, until) in ap said at ∙ same ∙ now)
          (cases_lt moment (to + 1)));
    })
    (λ (other : said (to + 1) ≢ said to).
    let new : Stretch S = record { from = to + 1; to = to + 1; said = said (to + 1) } in
    record {
      stretches = has.stretches ++ has.last ∷ [];
      last = new;
      ends = refl;
      is = begins_anew (IsJust said) from to has.stretches has.last new has.is refl refl refl (λ e. other (sym (now ∙ e)));
    })
    (decide (said (to + 1)) (said to))

timeline_for : {S : Type 0} (said : ℕ → S) (from number : ℕ) → ((a b : S) → (a ≡ b) ⊎ (a ≢ b)) → HasTimeline said from (from + number)
timeline_for {S} said from zero decide =
    let only : Stretch S = record { from = from; to = from; said = said from } in
    let here : from ≡ from + zero = omega arith in
    record {
      stretches = [];
      last = only;
      ends = here;
      is = subst (λ (m : ℕ). IsTimelineOf said from m (only ∷ [])) here (one_moment (IsJust said) from only refl refl refl);
    }
timeline_for {S} said from (suc number) decide =
    let further : (from + number) + 1 ≡ from + suc number = omega arith in
    subst (HasTimeline said from) further (timeline_more said from (from + number) decide (timeline_for said from number decide))

pub some_timeline : {S : Type 0} (said : ℕ → S) (from to : ℕ) → ((a b : S) → (a ≡ b) ⊎ (a ≢ b)) → from ≤ to
    → (stretches : List (Stretch S)) × IsTimelineOf said from to stretches
some_timeline {S} said from to decide within =
    let there : from + (to - from) ≡ to = omega arith in
    let has : HasTimeline said from to = subst (HasTimeline said from) there (timeline_for said from (to - from) decide) in
    (has.stretches ++ has.last ∷ [], has.is)

-- ---- what each stretch says, and what is said at each moment

each_moment : {S : Type 0} (said : ℕ → S) (test : S → Bool) (from behind : ℕ) (xs : List (Stretch S)) → AreWithoutGap from behind xs
    → AreSaid (IsJust said) xs → AllByRecursion (λ x. test x.said ≡ true) xs
    → (moment : ℕ) → from ≤ moment → moment < behind → test (said moment) ≡ true
each_moment said test from behind [] gap each all moment begins ends = absurd (omega (arith, gap, begins, ends))
each_moment said test from behind (x ∷ xs) gap each all moment begins ends =
    ⊎_elim (λ (less : moment < x.to + 1). ap test (each.0 moment (omega (arith, gap.0, begins)) (omega (arith, less))) ∙ all.0)
    (λ (more : x.to + 1 ≤ moment). each_moment said test (x.to + 1) behind xs gap.2 each.1 all.1 moment more ends)
    (cases_lt moment (x.to + 1))

each_stretch : {S : Type 0} (said : ℕ → S) (test : S → Bool) (from behind : ℕ) (xs : List (Stretch S)) → AreWithoutGap from behind xs
    → AreSaid (IsJust said) xs → ((moment : ℕ) → from ≤ moment → moment < behind → test (said moment) ≡ true)
    → AllByRecursion (λ x. test x.said ≡ true) xs
each_stretch said test from behind [] gap each all = tt
each_stretch said test from behind (x ∷ xs) gap each all =
    let inside = gap_within (x.to + 1) behind xs gap.2 in
    let now : said from ≡ x.said = each.0 from (omega (arith, gap.0)) (omega (arith, gap.0, gap.1)) in (
      ap test (sym now) ∙ all from (omega arith) (omega (arith, gap.0, gap.1, inside)),
      each_stretch said test (x.to + 1) behind xs gap.2 each.1 (λ moment begins ends. all moment (omega (arith, begins, gap.0, gap.1)) ends),
    )

pub said_throughout : {S : Type 0} (said : ℕ → S) (test : S → Bool) (from to : ℕ) (xs : List (Stretch S)) → IsTimelineOf said from to xs
    → (AllByRecursion (λ x. test x.said ≡ true) xs ↔ ((moment : ℕ) → from ≤ moment → moment ≤ to → test (said moment) ≡ true))
said_throughout said test from to xs timeline = (
  λ all moment begins ends. each_moment said test from (to + 1) xs timeline.without_gap timeline.each all moment begins (omega (arith, ends)),
  λ all. each_stretch said test from (to + 1) xs timeline.without_gap timeline.each (λ moment begins ends. all moment begins (omega (arith, ends))),
)
