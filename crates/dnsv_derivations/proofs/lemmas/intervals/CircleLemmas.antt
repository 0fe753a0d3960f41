-- Steps around a circle of n numbers, and from when to when what is valid within half of it is so.
use Rattle.std.proofs.Common.{◌≡◌, ℕ, ◌+◌, ◌*◌, ◌-◌, ◌/◌, ◌%◌, ◌<◌, ◌≤◌, subst, arith, min, ⊎_elim}
use Rattle.std.proofs.lemmas.Bool.{cases_lt}
use Rattle.dnsv_timeline.proofs.CircleLemmas.{on, on_below, on_further, on_is, on_rounds}

-- ---- one step back, and one on

-- x numbers before the end
pub end_before : (n f t x : ℕ) → x ≤ on n f t → x ≤ t → 0 < n → on n f (t - x) ≡ on n f t - x
end_before n f t x within few positive =
    let below : on n f t < n = on_below n f t positive in
    let rounds = on_rounds n f t positive in
    let e : (t - x) + (1 + f / n) * n ≡ f + (on n f t - x) + ((t + (n - f % n)) / n) * n = omega (arith, rounds) in
    on_is n f (t - x) (on n f t - x) _ _ (omega arith) e

-- beyond the start
pub end_beyond : (n f t x : ℕ) → on n f t < x → x ≤ n → x ≤ t → on n f (t - x) ≡ (n + on n f t) - x
end_beyond n f t x beyond few there =
    let positive : 0 < n = omega arith in
    let rounds = on_rounds n f t positive in
    let more : (t - x) + (2 + f / n) * n ≡ f + ((n + on n f t) - x) + ((t + (n - f % n)) / n) * n = grind arith in
    on_is n f (t - x) ((n + on n f t) - x) _ _ (omega arith) more

-- x numbers behind the start
pub start_behind : (n f t x : ℕ) → x ≤ on n f t → 0 < n → on n (f + x) t ≡ on n f t - x
start_behind n f t x within positive =
    let below : on n f t < n = on_below n f t positive in
    let rounds = on_rounds n f t positive in
    let e : t + (1 + f / n) * n ≡ (f + x) + (on n f t - x) + ((t + (n - f % n)) / n) * n = omega (arith, rounds) in
    on_is n (f + x) t (on n f t - x) _ _ (omega arith) e

-- beyond the end
pub start_beyond : (n f t x : ℕ) → on n f t < x → x ≤ n → on n (f + x) t ≡ (n + on n f t) - x
start_beyond n f t x beyond few =
    let positive : 0 < n = omega arith in
    let rounds = on_rounds n f t positive in
    let more : t + (2 + f / n) * n ≡ (f + x) + ((n + on n f t) - x) + ((t + (n - f % n)) / n) * n = grind arith in
    on_is n (f + x) t ((n + on n f t) - x) _ _ (omega arith) more

-- x numbers before the start
pub start_before : (n f t x : ℕ) → on n f t + x < n → x ≤ f → on n (f - x) t ≡ on n f t + x
start_before n f t x few there =
    let positive : 0 < n = omega arith in
    let rounds = on_rounds n f t positive in
    let e : t + (1 + f / n) * n ≡ (f - x) + (on n f t + x) + ((t + (n - f % n)) / n) * n = omega (arith, rounds) in
    on_is n (f - x) t (on n f t + x) _ _ few e

-- ---- within half of the circle

-- the moment is less than half of the circle behind the start, and the end less than half of it behind the moment
pub record IsBetween (half start end moment : ℕ) : Type 0 where
  pub begun : on (2 * half) start moment < half
  pub not_over : on (2 * half) moment end < half

-- how far that goes back from the moment, and how far on
abbrev pub before : ℕ → ℕ → ℕ → ℕ → ℕ
before half start end moment = min (on (2 * half) start moment) (half - 1 - on (2 * half) moment end)

abbrev pub behind : ℕ → ℕ → ℕ → ℕ → ℕ
behind half start end moment = min (on (2 * half) moment end) (half - 1 - on (2 * half) start moment)

between_before : (half start end moment x : ℕ) → IsBetween half start end moment → x ≤ moment
    → x ≤ before half start end moment → IsBetween half start end (moment - x)
between_before half start end moment x now there within =
    let n = 2 * half in
    let first : on n start (moment - x) ≡ on n start moment - x =
    end_before n start moment x (omega arith) there (omega (arith, now.begun)) in
    let second : on n (moment - x) end ≡ on n moment end + x =
    start_before n moment end x (omega (arith, now.not_over)) there in
    record { begun = omega (arith, first, now.begun); not_over = omega (arith, second, now.not_over) }

between_behind : (half start end moment x : ℕ) → IsBetween half start end moment
    → x ≤ behind half start end moment → IsBetween half start end (moment + x)
between_behind half start end moment x now within =
    let n = 2 * half in
    let first : on n start (moment + x) ≡ on n start moment + x =
    on_further n start moment x (omega (arith, now.begun)) in
    let second : on n (moment + x) end ≡ on n moment end - x =
    start_behind n moment end x (omega arith) (omega (arith, now.not_over)) in
    record { begun = omega (arith, first, now.begun); not_over = omega (arith, second, now.not_over) }

-- it is so at each moment within that
pub between_within : (half start end moment other : ℕ) → IsBetween half start end moment
    → moment - before half start end moment ≤ other → other ≤ moment + behind half start end moment
    → IsBetween half start end other
between_within half start end moment other now from to =
    ⊎_elim (λ (less : other < moment). let Goal : ℕ → Type 0 = λ each. IsBetween half start end each in
    let e : moment - (moment - other) ≡ other = omega arith in
    subst Goal e (between_before half start end moment (moment - other) now (omega arith) (omega arith)))
    (λ (more : moment ≤ other). let Goal : ℕ → Type 0 = λ each. IsBetween half start end each in
    let e : moment + (other - moment) ≡ other = omega arith in
    subst Goal e (between_behind half start end moment (other - moment) now (omega arith)))
    (cases_lt other moment)

-- and not one moment before that
pub none_before : (half start end moment : ℕ) → IsBetween half start end moment
    → before half start end moment < moment
    → IsBetween half start end (moment - (before half start end moment + 1)) → ⊥
none_before half start end moment now there then =
    let n = 2 * half in
    let a = on n start moment in
    let b = on n moment end in
    ⊎_elim (λ (less : a < half - b).
    let e : before half start end moment ≡ a = omega (arith, now.not_over) in
    let gone : on n start (moment - (before half start end moment + 1)) ≡ (n + a) - (before half start end moment + 1) =
    end_beyond n start moment (before half start end moment + 1) (omega arith) (omega (arith, now.begun)) (omega arith) in
    omega (arith, gone, then.begun, now.begun, e))
    (λ (more : half - b ≤ a).
    let e : before half start end moment + 1 ≡ half - b = omega (arith, now.not_over) in
    let gone : on n (moment - (before half start end moment + 1)) end ≡ b + (before half start end moment + 1) =
    start_before n moment end (before half start end moment + 1) (omega (arith, now.not_over, now.begun)) (omega arith) in
    omega (arith, gone, then.not_over, now.not_over, e))
    (cases_lt a (half - b))

-- nor one behind it
pub none_behind : (half start end moment : ℕ) → IsBetween half start end moment
    → IsBetween half start end (moment + (behind half start end moment + 1)) → ⊥
none_behind half start end moment now then =
    let n = 2 * half in
    let a = on n start moment in
    let b = on n moment end in
    ⊎_elim (λ (less : b < half - a).
    let e : behind half start end moment ≡ b = omega (arith, now.begun) in
    let gone : on n (moment + (behind half start end moment + 1)) end ≡ (n + b) - (behind half start end moment + 1) =
    start_beyond n moment end (behind half start end moment + 1) (omega arith) (omega (arith, now.not_over)) in
    omega (arith, gone, then.not_over, now.not_over, e))
    (λ (more : half - a ≤ b).
    let e : behind half start end moment + 1 ≡ half - a = omega (arith, now.begun) in
    let gone : on n start (moment + (behind half start end moment + 1)) ≡ a + (behind half start end moment + 1) =
    on_further n start moment (behind half start end moment + 1) (omega (arith, now.not_over, now.begun)) in
    omega (arith, gone, then.begun, now.begun, e))
    (cases_lt b (half - a))
