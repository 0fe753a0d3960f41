-- The points of one signature that begins and ends within the range.
use Rattle.std.proofs.Common.{◌≡◌, ◌↔◌, ℕ, zero, suc, ◌+◌, ◌-◌, ◌<◌, ◌≤◌, ◌⊎◌, inl, inr, List, [], ◌∷◌, ◌++◌, sym, ◌∙◌, subst, refl, arith, ⊎_elim}
use Rattle.std.proofs.lemmas.List.Elements.{Contains-append_left, Contains-push, Contains-push_cases}
use Rattle.std.specs.List.{Contains}
use Rattle.std.specs.List.Sorted.{IsStrictlyIncreasing}
use Rattle.dnsv_timeline.specs.declared.times.Times.{Times}
use Rattle.dnsv_timeline.specs.Points.{ArePoints, IsPoint}
use Rattle.dnsv_timeline.specs.Range.{IsRange}
use Rattle.dnsv_timeline.specs.Window.{AddsBehind, AddsChanges, AreChanges, IsWindow}
use Rattle.dnsv_timeline.proofs.CircleLemmas.{on}
use Rattle.dnsv_timeline.proofs.PointLemmas.{both_there, no_points, points_more}

adds_its_sum : (from limit seconds : ℕ) (old : List ℕ) → 0 < seconds → seconds ≤ limit → AddsBehind from limit seconds old (old ++ (from + seconds) ∷ [])
adds_its_sum from limit seconds old some few = record {
  members = λ moment. (
    λ found. ⊎_elim (λ (before : Contains old moment). inl before)
        (λ (same : from + seconds ≡ moment). inr (some, few, sym same))
        (Contains-push_cases old (from + seconds) moment found),
    λ either. ⊎_elim (λ (before : Contains old moment). Contains-append_left old ((from + seconds) ∷ []) moment before)
        (λ (sum : (0 < seconds) × (seconds ≤ limit) × (moment ≡ from + seconds)).
        subst (λ (m : ℕ). Contains (old ++ (from + seconds) ∷ []) m) (sym sum.2) (Contains-push old (from + seconds)))
        either,
  );
}

two_rise : (a b : ℕ) → a < b → IsStrictlyIncreasing (a ∷ b ∷ [])
two_rise a b less zero within = less
two_rise a b less (suc k) within = absurd (omega (arith, within))

pub points_of_one : (from to : ℕ) (times : Times) (start end first last : ℕ) → IsRange from to → IsWindow times start end
    → on 4294967296 (on 4294967296 times.inception.0 from) start ≡ first → on 4294967296 (on 4294967296 times.inception.0 from) end ≡ last
    → 0 < first → first < last → last ≤ to - from → ArePoints from to (times ∷ []) ((from + first) ∷ (from + last) ∷ [])
points_of_one from to times start end first last range window begins ends some less few =
    let one : AddsBehind from (to - from) (on 4294967296 (on 4294967296 times.inception.0 from) start) [] ((from + first) ∷ []) =
    subst (λ (s : ℕ). AddsBehind from (to - from) s [] ((from + first) ∷ [])) (sym begins)
    (adds_its_sum from (to - from) first [] some (omega (arith, less, few))) in
    let other : AddsBehind from (to - from) (on 4294967296 (on 4294967296 times.inception.0 from) end) ((from + first) ∷ []) ((from + first) ∷ (from + last) ∷ []) =
    subst (λ (s : ℕ). AddsBehind from (to - from) s ((from + first) ∷ []) ((from + first) ∷ (from + last) ∷ [])) (sym ends)
    (adds_its_sum from (to - from) last ((from + first) ∷ []) (omega (arith, some, less)) few) in
    let changes : AddsChanges from to times [] ((from + first) ∷ (from + last) ∷ []) =
    both_there from to times start end [] ((from + first) ∷ []) ((from + first) ∷ (from + last) ∷ []) range window one other in
    let are : AreChanges from to (times ∷ []) ((from + first) ∷ (from + last) ∷ []) =
    points_more from to (times ∷ []) 0 times [] ((from + first) ∷ (from + last) ∷ []) (omega arith) (no_points from to [] refl) changes in
    record { rising = two_rise (from + first) (from + last) (omega (arith, less)); members = are }
