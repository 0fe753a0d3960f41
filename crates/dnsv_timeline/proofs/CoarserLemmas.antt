-- A coarser timeline begins its stretches where a finer one does.
use Rattle.std.proofs.Common.{◌≡◌, ℕ, ◌+◌, ◌-◌, ◌<◌, ◌≤◌, ◌⊎◌, inl, inr, List, [], ◌∷◌, sym, ap, ◌∙◌, refl, arith, ⊎_elim}
use Rattle.std.proofs.lemmas.Bool.{cases_lt}
use Rattle.std.proofs.lemmas.List.Elements.{Contains-append_right}
use Rattle.std.specs.Prelude.{◌≢◌}
use Rattle.std.specs.List.{AllByRecursion, Contains}
use Rattle.dnsv_timeline.specs.declared.stretch.Stretch.{Stretch}
use Rattle.dnsv_timeline.specs.Timeline.{AreSaid, AreWithoutGap, DiffersFrom, IsJust, IsTimelineOf, NeighboursDiffer}
use Rattle.dnsv_timeline.proofs.OneTimeline.{gap_within}

head_of : {X : Type 0} (x : X) (xs : List X) → Contains (x ∷ xs) x
head_of x xs = (0, omega arith, refl)

-- a stretch begins at the moment and says so
abbrev BeginsAt : {S : Type 0} → List (Stretch S) → ℕ → S → Type 0
BeginsAt {S} stretches moment what = (x : Stretch S) × Contains stretches x × (x.from ≡ moment) × (x.said ≡ what)

-- where what is said is another than one moment before, a stretch begins
begins_where_new : {S : Type 0} (said : ℕ → S) (from behind : ℕ) (xs : List (Stretch S)) (moment : ℕ) → AreWithoutGap from behind xs
    → AreSaid (IsJust said) xs → from ≤ moment → moment < behind → (moment ≡ from) ⊎ (said moment ≢ said (moment - 1))
    → BeginsAt xs moment (said moment)
begins_where_new said from behind [] moment gap each begun ends new = absurd (omega (arith, gap, begun, ends))
begins_where_new {S} said from behind (x ∷ xs) moment gap each begun ends new =
    ⊎_elim (λ (within : moment < x.to + 1).
    ⊎_elim (λ (later : x.from < moment).
    ⊎_elim (λ (first : moment ≡ from). absurd (omega (arith, first, later, gap.0)))
    (λ (other : said moment ≢ said (moment - 1)). absurd (other
    (each.0 moment (omega (arith, later)) (omega (arith, within)) ∙ sym (each.0 (moment - 1) (omega (arith, later)) (omega (arith, within))))))
    new)
    (λ (here : moment ≤ x.from).
    let at : x.from ≡ moment = omega (arith, here, gap.0, begun) in
    (x, head_of x xs, at, sym (each.0 moment (omega (arith, at)) (omega (arith, within)))))
    (cases_lt x.from moment))
    (λ (beyond : x.to + 1 ≤ moment).
    let further : (moment ≡ x.to + 1) ⊎ (said moment ≢ said (moment - 1)) =
    ⊎_elim (λ (first : moment ≡ from). absurd (omega (arith, first, beyond, gap.0, gap.1)))
    (λ (other : said moment ≢ said (moment - 1)). inr other)
    new in
    let rest = begins_where_new said (x.to + 1) behind xs moment gap.2 each.1 beyond ends further in
    (rest.0, Contains-append_right (x ∷ []) xs rest.0 rest.1, rest.2, rest.3))
    (cases_lt moment (x.to + 1))

-- a stretch of kinds begins where one of the others does, and has its kind
abbrev Follows : {S K : Type 0} → (S → K) → List (Stretch S) → Stretch K → Type 0
Follows {S} {K} kind stretches each = (x : Stretch S) × Contains stretches x × (x.from ≡ each.from) × (kind x.said ≡ each.said)

module _ {S K : Type 0} (said : ℕ → S) (kind : S → K) (start last : ℕ) (stretches : List (Stretch S)) (timeline : IsTimelineOf said start last stretches) where
  one_begins : (from : ℕ) (y : Stretch K) → y.from ≡ from → y.from ≤ y.to → from < last + 1 → kind (said from) ≡ y.said → start ≤ from
      → (from ≡ start) ⊎ (said from ≢ said (from - 1)) → Follows kind stretches y
  one_begins from y at within before now begun finer =
      let found = begins_where_new said start (last + 1) stretches from timeline.without_gap timeline.each begun before finer in
      (found.0, found.1, found.2 ∙ sym at, ap kind found.3 ∙ now)

  -- those behind a moment at which another kind is said than their first one's
  rest_begin : (before : ℕ) (what : K) (kinds : List (Stretch K)) → kind (said before) ≡ what → start ≤ before
      → AreWithoutGap (before + 1) (last + 1) kinds → AreSaid (IsJust (λ moment. kind (said moment))) kinds → DiffersFrom what kinds
      → AllByRecursion (Follows kind stretches) kinds
  rest_begin before what [] at begun gap each differ = tt
  rest_begin before what (y ∷ kinds) at begun gap each differ =
      let inside = gap_within (y.to + 1) (last + 1) kinds gap.2 in
      let now : kind (said (before + 1)) ≡ y.said = each.0 (before + 1) (omega (arith, gap.0)) (omega (arith, gap.0, gap.1)) in
      let earlier : (before + 1) - 1 ≡ before = omega arith in
      let new : said (before + 1) ≢ said ((before + 1) - 1) =
      λ e. differ.0 (sym at ∙ ap (λ (m : ℕ). kind (said m)) (sym earlier) ∙ ap kind (sym e) ∙ now) in (
        one_begins (before + 1) y gap.0 gap.1 (omega (arith, gap.0, gap.1, inside)) now (omega (arith, begun)) (inr new),
        rest_begin y.to y.said kinds (each.0 y.to gap.1 (omega arith)) (omega (arith, begun, gap.0, gap.1)) gap.2 each.1 differ.1,
      )

  first_begins : (kinds : List (Stretch K)) → AreWithoutGap start (last + 1) kinds → AreSaid (IsJust (λ moment. kind (said moment))) kinds
      → NeighboursDiffer kinds → AllByRecursion (Follows kind stretches) kinds
  first_begins [] gap each differ = tt
  first_begins (y ∷ kinds) gap each differ =
      let inside = gap_within (y.to + 1) (last + 1) kinds gap.2 in (
        one_begins start y gap.0 gap.1 (omega (arith, gap.0, gap.1, inside)) (each.0 start (omega (arith, gap.0)) (omega (arith, gap.0, gap.1))) (omega arith) (inl refl),
        rest_begin y.to y.said kinds (each.0 y.to gap.1 (omega arith)) (omega (arith, gap.0, gap.1)) gap.2 each.1 differ,
      )

  pub all_begin : (kinds : List (Stretch K)) → IsTimelineOf (λ moment. kind (said moment)) start last kinds
      → AllByRecursion (Follows kind stretches) kinds
  all_begin kinds coarser = first_begins kinds coarser.without_gap coarser.each coarser.differ
