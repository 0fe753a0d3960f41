-- Timelines: what is said at each moment of a range, in as few stretches as there can be. What is said at a moment may be
-- a relation, as a verdict is to its evidence.
use Rattle.std.specs.Prelude.{◌≡◌, ◌≢◌, ◌↔◌, ⊤, ℕ, ◌+◌, ◌≤◌, List, [], ◌∷◌, Contains}
use Rattle.dnsv_timeline.specs.declared.stretch.Stretch.{Stretch}
use Rattle.dnsv_timeline.specs.declared.times.Times.{Times}
use Rattle.dnsv_timeline.specs.Points.{IsValidAt}

-- the stretches follow one another without gap, from the first moment to before the last number
abbrev pub AreWithoutGap : {S : Type 0} → ℕ → ℕ → List (Stretch S) → Type 0
AreWithoutGap {S} from behind [] = from ≡ behind
AreWithoutGap {S} from behind (stretch ∷ others) =
    (stretch.from ≡ from) × (stretch.from ≤ stretch.to) × AreWithoutGap (stretch.to + 1) behind others

-- each moment of the stretch has what it says
abbrev pub Says : {S : Type 0} → (ℕ → S → Type 0) → Stretch S → Type 0
Says {S} Said stretch = (moment : ℕ) → stretch.from ≤ moment → moment ≤ stretch.to → Said moment stretch.said

-- and so has each moment of each
abbrev pub AreSaid : {S : Type 0} → (ℕ → S → Type 0) → List (Stretch S) → Type 0
AreSaid {S} Said [] = ⊤
AreSaid {S} Said (stretch ∷ others) = Says Said stretch × AreSaid Said others

-- the first doesn't say the same, nor does any the same as its neighbour
abbrev pub DiffersFrom : {S : Type 0} → S → List (Stretch S) → Type 0
DiffersFrom {S} said [] = ⊤
DiffersFrom {S} said (stretch ∷ others) = (said ≢ stretch.said) × DiffersFrom stretch.said others

-- no two neighbours say the same
abbrev pub NeighboursDiffer : {S : Type 0} → List (Stretch S) → Type 0
NeighboursDiffer {S} [] = ⊤
NeighboursDiffer {S} (stretch ∷ others) = DiffersFrom stretch.said others

-- the timeline from the first moment to the last, where what is said at a moment is in this relation to it
pub record IsTimelineBy {S : Type 0} (Said : ℕ → S → Type 0) (from to : ℕ) (stretches : List (Stretch S)) : Type 0 where
  pub without_gap : AreWithoutGap from (to + 1) stretches
  pub each : AreSaid Said stretches
  pub differ : NeighboursDiffer stretches

-- just this is said at the moment
abbrev pub IsJust : {S : Type 0} → (ℕ → S) → ℕ → S → Type 0
IsJust {S} said moment one = said moment ≡ one

-- the timeline of what is said at each moment
abbrev pub IsTimelineOf : {S : Type 0} → (ℕ → S) → ℕ → ℕ → List (Stretch S) → Type 0
IsTimelineOf {S} said from to stretches = IsTimelineBy (IsJust said) from to stretches

-- the same signatures are valid at both moments
abbrev pub AreSameValid : List Times → ℕ → ℕ → Type 0
AreSameValid signatures moment other =
    (times : Times) → Contains signatures times → IsValidAt times moment ↔ IsValidAt times other

-- what is said depends on the moment through the validity of the signatures alone
abbrev pub DependsOn : {S : Type 0} → (ℕ → S → Type 0) → List Times → Type 0
DependsOn {S} Said signatures =
    (moment other : ℕ) (said : S) → AreSameValid signatures moment other → Said moment said → Said other said

-- and so at the moments of a range: what is said at others may be anything
abbrev pub DependsOnWithin : {S : Type 0} → ℕ → ℕ → (ℕ → S → Type 0) → List Times → Type 0
DependsOnWithin {S} from to Said signatures =
    (moment other : ℕ) (said : S) → from ≤ moment → moment ≤ to → from ≤ other → other ≤ to
    → AreSameValid signatures moment other → Said moment said → Said other said
