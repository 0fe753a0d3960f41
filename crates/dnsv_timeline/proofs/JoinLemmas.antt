-- The timeline so far, point by point.
use Rattle.std.proofs.Common.{◌≡◌, ◌↔◌, ℕ, zero, suc, ◌+◌, ◌-◌, ◌<◌, ◌≤◌, ◌⊎◌, inl, inr, Bool, true, false, List, [], ◌∷◌, ◌++◌, length, get_or, refl, sym, ap, ◌∙◌, subst, arith, ⊎_elim}
use Rattle.std.proofs.lemmas.Bool.{cases_lt, false≢true}
use Rattle.std.proofs.lemmas.List.{get_or_default}
use Rattle.std.proofs.lemmas.List.Kept.{AllPairs-from_increasing}
use Rattle.std.specs.Prelude.{◌≢◌, IsTrue}
use Rattle.std.specs.List.{Contains}
use Rattle.dnsv_timeline.specs.declared.stretch.Stretch.{Stretch}
use Rattle.dnsv_timeline.specs.declared.times.Times.{Times}
use Rattle.dnsv_timeline.specs.Joined.{Goes, IsSteady, up_to}
use Rattle.dnsv_timeline.specs.Points.{ArePoints, IsChange, IsValidAt}
use Rattle.dnsv_timeline.specs.Range.{IsRange}
use Rattle.dnsv_timeline.specs.Timeline.{AreSameValid, DependsOnWithin, IsTimelineBy}
use Rattle.dnsv_timeline.proofs.CircleLemmas.{on}
use Rattle.dnsv_timeline.proofs.StretchLemmas.{begins_anew, gap_split, goes_on, one_moment, said_split}

-- what doesn't change for so many moments
steady_run : {S : Type 0} (Said : ℕ → S → Type 0) (what : S) (first number : ℕ)
    → ((moment : ℕ) → first < moment → moment ≤ first + number → Said (moment - 1) what → Said moment what) → Said first what
    → Said (first + number) what
steady_run Said what first zero each is =
    let here : first ≡ first + zero = omega arith in subst (λ (m : ℕ). Said m what) here is
steady_run Said what first (suc number) each is =
    let before : first + number ≡ (first + suc number) - 1 = omega arith in
    each (first + suc number) (omega arith) (omega arith)
    (subst (λ (m : ℕ). Said m what) before
    (steady_run Said what first number (λ moment behind within. each moment behind (omega (arith, within))) is))

pub record IsJoinedTo {S : Type 0} (Said : ℕ → S → Type 0) (from to : ℕ) (points : List ℕ) (i : ℕ) (stretches : List (Stretch S)) (last : Stretch S) : Type 0 where
  pub timeline : IsTimelineBy Said from last.to (stretches ++ last ∷ [])
  pub begun : from ≤ last.to
  pub within : last.to ≤ to
  pub done : (k : ℕ) → k < i → k < length points → get_or points k 0 ≤ last.to
  pub ahead : (k : ℕ) → i ≤ k → k < length points → last.to < get_or points k 0

-- up to before the next point, or to the end, all is as it was
pub stays : {S : Type 0} (Said : ℕ → S → Type 0) (from to : ℕ) (points : List ℕ) (i : ℕ) (stretches : List (Stretch S)) (last : Stretch S) (limit : ℕ)
    → IsSteady Said from to points → IsJoinedTo Said from to points i stretches last → limit ≤ to
    → ((k : ℕ) → i ≤ k → k < length points → limit < get_or points k 0)
    → (moment : ℕ) → last.to ≤ moment → moment ≤ limit → Said moment last.said
stays Said from to points i stretches last limit steady joined within beyond moment behind before =
    let begun = joined.begun in
    let there : last.to + (moment - last.to) ≡ moment = omega arith in
    let first = gap_split from (last.to + 1) stretches last joined.timeline.without_gap in
    let now : Said last.to last.said = (said_split Said stretches last joined.timeline.each).1 last.to first.1 (omega arith) in
    let run = steady_run Said last.said last.to (moment - last.to) (λ each further short was.
    steady.steady each (omega (arith, further, begun)) (omega (arith, short, there, before, within))
    (λ found. ⊎_elim (λ (less : found.0 < i).
    let e = get_or_default points found.0 0 each found.1 in
    let d = joined.done found.0 less found.1 in omega (arith, e, found.2, d, further))
    (λ (more : i ≤ found.0).
    let e = get_or_default points found.0 0 each found.1 in
    let d = beyond found.0 more found.1 in omega (arith, e, found.2, d, short, there, before))
    (cases_lt found.0 i)) last.said was) now in
    subst (λ (m : ℕ). Said m last.said) there run

joined_first : {S : Type 0} (Said : ℕ → S → Type 0) (from to : ℕ) (points : List ℕ) (last : Stretch S) → IsRange from to → IsSteady Said from to points
    → last.from ≡ from → last.to ≡ from → Said from last.said → IsJoinedTo Said from to points 0 [] last
joined_first Said from to points last is_range steady begins ends is =
    let range = is_range.turned in
    record {
      timeline = subst (λ (m : ℕ). IsTimelineBy Said from m (last ∷ [])) (sym ends) (one_moment Said from last begins ends is);
      begun = omega (arith, ends);
      within = omega (arith, ends, range);
      done = λ k less below. absurd (omega (arith, less));
      ahead = λ k more below. let p = steady.within (get_or points k 0) (k, below, get_or_default points k (get_or points k 0) 0 below) in
          omega (arith, p.0, ends);
    }

-- before the first point
pub joined_start : {S : Type 0} (Said : ℕ → S → Type 0) (from to : ℕ) (points : List ℕ) (none : List (Stretch S)) (last : Stretch S)
    → IsRange from to → IsSteady Said from to points → none ≡ [] → last.from ≡ from → Said last.from last.said → last.to ≡ last.from
    → IsJoinedTo Said from to points 0 none last
joined_start {S} Said from to points none last range steady empty begins is ends =
    subst (λ (xs : List (Stretch S)). IsJoinedTo Said from to points 0 xs last) (sym empty)
    (joined_first Said from to points last range steady begins (ends ∙ begins) (subst (λ (m : ℕ). Said m last.said) begins is))

-- a point is behind the first moment
pub inside : {S : Type 0} (Said : ℕ → S → Type 0) (from to : ℕ) (points : List ℕ) (i : ℕ) → IsSteady Said from to points → i < length points
    → 0 < get_or points i 0
inside Said from to points i steady below =
    let within = steady.within (get_or points i 0) (i, below, get_or_default points i (get_or points i 0) 0 below) in
    omega (arith, within.0)

-- the last stretch goes on to the point, or another begins there
went : {S : Type 0} (Said : ℕ → S → Type 0) (from before point : ℕ) (old new : List (Stretch S)) (last next : Stretch S) (same : Bool) (what : S)
    → before + 1 ≡ point → last.from ≤ before → IsTimelineBy Said from before (old ++ up_to last before ∷ []) → Said point what
    → (IsTrue same ↔ (last.said ≡ what)) → Goes same last point what old new next
    → (next.to ≡ point) × IsTimelineBy Said from point (new ++ next ∷ [])
went {S} Said from before point old new last next true what is_next within timeline is test goes =
    let ends : next.to ≡ point = ap (λ (x : Stretch S). x.to) goes.1 in
    let each = said_split Said old (up_to last before) timeline.each in
    let at_before : Said before last.said = each.1 before within (omega arith) in
    let alike : what ≡ last.said = sym (test.0 refl) in
    let at_point : Said point last.said = subst (λ (one : S). Said point one) alike is in
    let steady : (moment : ℕ) → before ≤ moment → moment ≤ point → Said moment last.said = λ moment behind until.
    ⊎_elim (λ (less : moment < point). let at : before ≡ moment = omega (arith, less, behind, is_next) in
    subst (λ (m : ℕ). Said m last.said) at at_before)
    (λ (more : point ≤ moment). let at : point ≡ moment = omega (arith, more, until) in subst (λ (m : ℕ). Said m last.said) at at_point)
    (cases_lt moment point) in
    let longer : IsTimelineBy Said from point (old ++ up_to last point ∷ []) =
    goes_on Said from point old (up_to last before) timeline (omega (arith, is_next)) steady in
    let moved : IsTimelineBy Said from point (old ++ next ∷ []) =
    subst (λ (x : Stretch S). IsTimelineBy Said from point (old ++ x ∷ [])) (sym goes.1) longer in
    (ends, subst (λ (xs : List (Stretch S)). IsTimelineBy Said from point (xs ++ next ∷ [])) (sym goes.0) moved)
went {S} Said from before point old new last next false what is_next within timeline is test goes =
    let ends : next.to ≡ point = ap (λ (x : Stretch S). x.to) goes.1 in
    let begins : next.from ≡ point = ap (λ (x : Stretch S). x.from) goes.1 in
    let says : next.said ≡ what = ap (λ (x : Stretch S). x.said) goes.1 in
    let here : before ≡ point - 1 = omega (arith, is_next) in
    let other : last.said ≢ next.said = λ e. false≢true (test.1 (e ∙ says)) in
    let added : IsTimelineBy Said from (before + 1) ((old ++ up_to last before ∷ []) ++ next ∷ []) =
    begins_anew Said from before old (up_to last before) next timeline (begins ∙ sym is_next) (ends ∙ sym is_next)
    (subst (λ (m : ℕ). Said m next.said) (sym is_next) (subst (λ (one : S). Said point one) (sym says) is)) other in
    let list : old ++ up_to last before ∷ [] ≡ new = ap (λ (m : ℕ). old ++ up_to last m ∷ []) here ∙ sym goes.0 in
    let moved : IsTimelineBy Said from (before + 1) (new ++ next ∷ []) =
    subst (λ (xs : List (Stretch S)). IsTimelineBy Said from (before + 1) (xs ++ next ∷ [])) list added in
    (ends, subst (λ (m : ℕ). IsTimelineBy Said from m (new ++ next ∷ [])) is_next moved)

-- the next point
pub joined_more : {S : Type 0} (Said : ℕ → S → Type 0) (from to : ℕ) (points : List ℕ) (i : ℕ) (old new : List (Stretch S)) (last next : Stretch S)
    (same : Bool) (what : S) → i < length points → IsSteady Said from to points → IsJoinedTo Said from to points i old last
    → Said (get_or points i 0) what → (IsTrue same ↔ (last.said ≡ what)) → Goes same last (get_or points i 0) what old new next
    → IsJoinedTo Said from to points (i + 1) new next
joined_more {S} Said from to points i old new last next same what below steady joined is test goes =
    let point : ℕ = get_or points i 0 in
    let here : Contains points point = (i, below, get_or_default points i point 0 below) in
    let inside = steady.within point here in
    let pairs = AllPairs-from_increasing points steady.rising in
    let there : last.to < point = joined.ahead i (omega arith) below in
    let beyond : (k : ℕ) → i ≤ k → k < length points → point ≤ get_or points k 0 = λ k more less.
    ⊎_elim (λ (further : i < k). let p = pairs i k 0 further less in omega (arith, p))
    (λ (at : k ≤ i). let e : k ≡ i = omega (arith, more, at) in let p : point ≡ get_or points k 0 = ap (λ (j : ℕ). get_or points j 0) (sym e) in omega (arith, p))
    (cases_lt i k) in
    let before : IsTimelineBy Said from (point - 1) (old ++ up_to last (point - 1) ∷ []) =
    goes_on Said from (point - 1) old last joined.timeline (omega (arith, there))
    (stays Said from to points i old last (point - 1) steady joined (omega (arith, inside.1))
    (λ k more less. let p = beyond k more less in omega (arith, p, there))) in
    let next_moment : (point - 1) + 1 ≡ point = omega (arith, there) in
    let begun = joined.begun in
    let done : (k : ℕ) → k < i + 1 → k < length points → get_or points k 0 ≤ point = λ k less short.
    ⊎_elim (λ (earlier : k < i). let d = joined.done k earlier short in omega (arith, d, there))
    (λ (at : i ≤ k). let e : k ≡ i = omega (arith, less, at) in let p : get_or points k 0 ≡ point = ap (λ (j : ℕ). get_or points j 0) e in omega (arith, p))
    (cases_lt k i) in
    let ahead : (k : ℕ) → i + 1 ≤ k → k < length points → point < get_or points k 0 = λ k more short. pairs i k 0 (omega (arith, more)) short in
    let first = gap_split from (last.to + 1) old last joined.timeline.without_gap in
    let went_on = went Said from (point - 1) point old new last next same what next_moment (omega (arith, first.1, there)) before is test goes in
    record {
      timeline = subst (λ (m : ℕ). IsTimelineBy Said from m (new ++ next ∷ [])) (sym went_on.0) went_on.1;
      begun = omega (arith, went_on.0, begun, there);
      within = omega (arith, went_on.0, inside.1);
      done = λ k less short. let d = done k less short in omega (arith, d, went_on.0);
      ahead = λ k more short. let a = ahead k more short in omega (arith, a, went_on.0);
    }

-- behind the last point
pub joined_all : {S : Type 0} (Said : ℕ → S → Type 0) (from to : ℕ) (points : List ℕ) (i : ℕ) (stretches : List (Stretch S)) (last : Stretch S)
    → length points ≤ i → IsSteady Said from to points → IsJoinedTo Said from to points i stretches last
    → IsTimelineBy Said from to (stretches ++ up_to last to ∷ [])
joined_all Said from to points i stretches last end steady joined =
    goes_on Said from to stretches last joined.timeline joined.within
    (stays Said from to points i stretches last to steady joined (omega arith) (λ k more less. absurd (omega (arith, more, less, end))))

pub joined_end : {S : Type 0} (Said : ℕ → S → Type 0) (from to : ℕ) (points : List ℕ) (i : ℕ) (stretches : List (Stretch S)) (last : Stretch S)
    (end : ℕ) (all : List (Stretch S)) → length points ≤ i → IsSteady Said from to points → IsJoinedTo Said from to points i stretches last
    → end ≡ to → all ≡ stretches ++ up_to last end ∷ [] → IsTimelineBy Said from to all
joined_end {S} Said from to points i stretches last end all behind steady joined at is =
    let pushed : all ≡ stretches ++ up_to last to ∷ [] = is ∙ ap (λ (m : ℕ). stretches ++ up_to last m ∷ []) at in
    subst (IsTimelineBy Said from to) (sym pushed) (joined_all Said from to points i stretches last behind steady joined)

-- ---- what depends on signatures alone

pub valid_or : (times : Times) (moment : ℕ) → IsValidAt times moment ⊎ (IsValidAt times moment → ⊥)
valid_or times moment =
    ⊎_elim (λ (begun : on 4294967296 times.inception.0 moment < 2147483648).
    ⊎_elim (λ (left : on 4294967296 moment times.expiration.0 < 2147483648). inl (record { begun = begun; not_over = left }))
    (λ (over : 2147483648 ≤ on 4294967296 moment times.expiration.0). inr (λ valid. omega (arith, valid.not_over, over)))
    (cases_lt (on 4294967296 moment times.expiration.0) 2147483648))
    (λ (not_begun : 2147483648 ≤ on 4294967296 times.inception.0 moment). inr (λ valid. omega (arith, valid.begun, not_begun)))
    (cases_lt (on 4294967296 times.inception.0 moment) 2147483648)

-- where a signature doesn't change, it is as valid as one second before
pub unchanged : (times : Times) (moment : ℕ) → (IsChange times moment → ⊥) → IsValidAt times moment ↔ IsValidAt times (moment - 1)
unchanged times moment none = (
  λ valid. ⊎_elim (λ (before : IsValidAt times (moment - 1)). before)
      (λ (not : IsValidAt times (moment - 1) → ⊥). absurd (none (inl (not, valid))))
      (valid_or times (moment - 1)),
  λ before. ⊎_elim (λ (valid : IsValidAt times moment). valid)
      (λ (not : IsValidAt times moment → ⊥). absurd (none (inr (before, not))))
      (valid_or times moment),
)

-- all signatures, where the moment is no point
pub all_unchanged : (from to : ℕ) (signatures : List Times) (points : List ℕ) (moment : ℕ) → ArePoints from to signatures points
    → from < moment → moment ≤ to → (Contains points moment → ⊥) → AreSameValid signatures moment (moment - 1)
all_unchanged from to signatures points moment are behind within none times among =
    unchanged times moment (λ change. none ((are.members moment).1 (times, among, record { behind = behind; within = within; changes = change })))

pub steady_of : {S : Type 0} (Said : ℕ → S → Type 0) (from to : ℕ) (signatures : List Times) (points : List ℕ)
    → DependsOnWithin from to Said signatures → ArePoints from to signatures points → IsSteady Said from to points
steady_of Said from to signatures points depends are = record {
  rising = are.rising;
  within = λ point among. let is = (are.members point).0 among in (is.2.behind, is.2.within);
  steady = λ moment behind within none said was.
      depends (moment - 1) moment said (omega (arith, behind)) (omega (arith, within)) (omega (arith, behind)) within
      (λ times among. let is = all_unchanged from to signatures points moment are behind within none times among in (is.1, is.0)) was;
}
