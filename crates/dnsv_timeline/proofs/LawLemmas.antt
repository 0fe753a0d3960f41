-- What the laws of points say.
use Rattle.std.proofs.Common.{◌≡◌, ◌↔◌, ℕ, zero, suc, ◌+◌, ◌-◌, ◌<◌, ◌≤◌, ◌⊎◌, inl, inr, List, refl, sym, ap, ◌∙◌, subst, arith, ⊎_elim}
use Rattle.std.specs.List.{Contains}
use Rattle.dnsv_timeline.specs.declared.times.Times.{Times}
use Rattle.dnsv_timeline.specs.Points.{ArePoints, IsChange, IsValidAt}
use Rattle.dnsv_timeline.specs.Timeline.{AreSameValid}
use Rattle.dnsv_timeline.specs.Window.{IsWindow}
use Rattle.dnsv_timeline.proofs.CircleLemmas.{on}
use Rattle.dnsv_timeline.proofs.JoinLemmas.{all_unchanged}
use Rattle.dnsv_timeline.proofs.WindowLemmas.{begins_where, changes_at, ends_where, window_odd, window_usual}

same_for : (from to : ℕ) (signatures : List Times) (points : List ℕ) (moment number : ℕ) → ArePoints from to signatures points
    → from ≤ moment → moment + number ≤ to
    → ((point : ℕ) → Contains points point → moment < point → moment + number < point)
    → AreSameValid signatures (moment + number) moment
same_for from to signatures points moment zero are begins ends none times among =
    let here : moment + zero ≡ moment = omega arith in
    subst (λ (m : ℕ). IsValidAt times m ↔ IsValidAt times moment) (sym here) ((λ valid. valid), (λ valid. valid))
same_for from to signatures points moment (suc number) are begins ends none times among =
    let before : (moment + suc number) - 1 ≡ moment + number = omega arith in
    let rest = same_for from to signatures points moment number are begins (omega (arith, ends))
    (λ point found behind. let p = none point found behind in omega (arith, p)) times among in
    let last = all_unchanged from to signatures points (moment + suc number) are (omega (arith, begins)) ends
    (λ found. let p = none (moment + suc number) found (omega arith) in omega (arith, p)) times among in (
      λ valid. rest.0 (subst (IsValidAt times) before (last.0 valid)),
      λ valid. last.1 (subst (IsValidAt times) (sym before) (rest.1 valid)),
    )

pub same_until : (from to : ℕ) (signatures : List Times) (points : List ℕ) (moment later : ℕ) → ArePoints from to signatures points
    → from ≤ moment → moment ≤ later → later ≤ to
    → ((point : ℕ) → Contains points point → moment < point → later < point)
    → AreSameValid signatures later moment
same_until from to signatures points moment later are begins within ends none =
    let there : moment + (later - moment) ≡ later = omega arith in
    subst (λ (m : ℕ). AreSameValid signatures m moment) there
    (same_for from to signatures points moment (later - moment) are begins (omega (arith, there, ends))
    (λ point found behind. let p = none point found behind in omega (arith, p, there)))

-- just where the window begins or is over
window_changes : (times : Times) (start end moment : ℕ) → 0 < moment → IsWindow times start end
    → IsChange times moment ↔ ((on 4294967296 times.inception.0 moment ≡ start) ⊎ (on 4294967296 times.inception.0 moment ≡ end))
window_changes times start end moment positive window =
    let next : (moment - 1) + 1 ≡ moment = omega arith in
    subst (λ (m : ℕ). IsChange times m ↔ ((on 4294967296 times.inception.0 m ≡ start) ⊎ (on 4294967296 times.inception.0 m ≡ end))) next (
      changes_at times start end (moment - 1) window,
      λ either. ⊎_elim (λ (e : on 4294967296 times.inception.0 ((moment - 1) + 1) ≡ start). begins_where times start end (moment - 1) window e)
          (λ (e : on 4294967296 times.inception.0 ((moment - 1) + 1) ≡ end). ends_where times start end (moment - 1) window e) either,
    )

pub usual_changes : (times : Times) (moment : ℕ) → 0 < moment → on 4294967296 times.inception.0 times.expiration.0 < 2147483648
    → IsChange times moment ↔ ((on 4294967296 times.inception.0 moment ≡ 0)
    ⊎ (on 4294967296 times.inception.0 moment ≡ on 4294967296 times.inception.0 times.expiration.0 + 1))
usual_changes times moment positive short =
    window_changes times 0 (on 4294967296 times.inception.0 times.expiration.0 + 1) moment positive (window_usual times short)

pub odd_changes : (times : Times) (moment : ℕ) → 0 < moment → 2147483648 ≤ on 4294967296 times.inception.0 times.expiration.0
    → on 4294967296 times.inception.0 times.expiration.0 < 4294967295
    → IsChange times moment ↔ ((on 4294967296 times.inception.0 moment ≡ (on 4294967296 times.inception.0 times.expiration.0 - 2147483648) + 1)
    ⊎ (on 4294967296 times.inception.0 moment ≡ 2147483648))
odd_changes times moment positive long some =
    window_changes times ((on 4294967296 times.inception.0 times.expiration.0 - 2147483648) + 1) 2147483648 moment positive (window_odd times long some)
