-- What is said at the moments of a range, and what else is then.
use Rattle.std.proofs.Common.{◌≡◌, ℕ, zero, suc, ◌+◌, ◌-◌, ◌<◌, ◌≤◌, ◌⊎◌, List, [], ◌∷◌, refl, subst, arith, ⊎_elim}
use Rattle.std.proofs.lemmas.Bool.{cases_lt}
use Rattle.std.proofs.lemmas.List.Elements.{Contains-append_right}
use Rattle.std.specs.Prelude.{◌≢◌}
use Rattle.std.specs.List.{Contains}
use Rattle.dnsv_timeline.specs.declared.stretch.Stretch.{Stretch}
use Rattle.dnsv_timeline.specs.Timeline.{AreSaid, AreWithoutGap, IsTimelineBy, Says}
use Rattle.dnsv_timeline.proofs.OneTimeline.{gap_within}

head_of : {X : Type 0} (x : X) (xs : List X) → Contains (x ∷ xs) x
head_of x xs = (0, omega arith, refl)

-- a relation that follows at the moments of the range holds of each stretch
module _ {S : Type 0} (Said Then : ℕ → S → Type 0) (from to : ℕ)
    (follows : (moment : ℕ) (said : S) → from ≤ moment → moment ≤ to → Said moment said → Then moment said) where
  each_follows : (begin : ℕ) (xs : List (Stretch S)) → from ≤ begin → AreWithoutGap begin (to + 1) xs → AreSaid Said xs → AreSaid Then xs
  each_follows begin [] begun gap each = tt
  each_follows begin (x ∷ xs) begun gap each =
      let inside = gap_within (x.to + 1) (to + 1) xs gap.2 in
      let says : Says Then x = λ moment start end.
      follows moment x.said (omega (arith, begun, gap.0, start)) (omega (arith, inside, end)) (each.0 moment start end) in
      (says, each_follows (x.to + 1) xs (omega (arith, begun, gap.0, gap.1)) gap.2 each.1)

  pub timeline_follows : (xs : List (Stretch S)) → IsTimelineBy Said from to xs → IsTimelineBy Then from to xs
  timeline_follows xs timeline = record {
    without_gap = timeline.without_gap;
    each = each_follows from xs (omega arith) timeline.without_gap timeline.each;
    differ = timeline.differ;
  }

-- a moment of the range is in a stretch
pub stretch_at : {S : Type 0} (from behind moment : ℕ) (xs : List (Stretch S)) → AreWithoutGap from behind xs → from ≤ moment → moment < behind
    → (x : Stretch S) × Contains xs x × (x.from ≤ moment) × (moment ≤ x.to)
stretch_at from behind moment [] gap begun ends = absurd (omega (arith, gap, begun, ends))
stretch_at {S} from behind moment (x ∷ xs) gap begun ends =
    ⊎_elim (λ (here : moment < x.to + 1). (x, head_of x xs, omega (arith, gap.0, begun), omega (arith, here)))
    (λ (later : x.to + 1 ≤ moment).
    let rest = stretch_at (x.to + 1) behind moment xs gap.2 later ends in
    (rest.0, Contains-append_right (x ∷ []) xs rest.0 rest.1, rest.2, rest.3))
    (cases_lt moment (x.to + 1))

-- what a stretch says, its moments have
pub says_of : {S : Type 0} (Said : ℕ → S → Type 0) (xs : List (Stretch S)) (x : Stretch S) → AreSaid Said xs → Contains xs x → Says Said x
says_of Said [] x each found = absurd (omega (arith, found.1))
says_of {S} Said (y ∷ ys) x each (zero, within, is) = subst (λ (z : Stretch S). Says Said z) is each.0
says_of Said (y ∷ ys) x each (suc i, within, is) = says_of Said ys x each.1 (i, omega (arith, within), is)

-- a stretch lies within the range, and has a moment
pub lies_within : {S : Type 0} (from behind : ℕ) (xs : List (Stretch S)) (x : Stretch S) → AreWithoutGap from behind xs → Contains xs x
    → (from ≤ x.from) × (x.from ≤ x.to) × (x.to < behind)
lies_within from behind [] x gap found = absurd (omega (arith, found.1))
lies_within {S} from behind (y ∷ ys) x gap (zero, within, is) =
    let inside = gap_within (y.to + 1) behind ys gap.2 in
    subst (λ (z : Stretch S). (from ≤ z.from) × (z.from ≤ z.to) × (z.to < behind)) is
    (omega (arith, gap.0), gap.1, omega (arith, inside))
lies_within from behind (y ∷ ys) x gap (suc i, within, is) =
    let rest = lies_within (y.to + 1) behind ys x gap.2 (i, omega (arith, within), is) in
    (omega (arith, gap.0, gap.1, rest.0), rest.1, rest.2)

-- a range with a moment has a stretch
pub some_stretch : {S : Type 0} (from to : ℕ) (xs : List (Stretch S)) → from ≤ to → AreWithoutGap from (to + 1) xs → xs ≢ []
some_stretch {S} from to xs turned gap none =
    let empty : from ≡ to + 1 = subst (λ (ys : List (Stretch S)). AreWithoutGap from (to + 1) ys) none gap in
    omega (arith, empty, turned)
