-- From when to when one signature is valid, and where that changes.
use Rattle.std.proofs.Common.{◌≡◌, ℕ, ◌+◌, ◌*◌, ◌-◌, ◌<◌, ◌≤◌, ◌⊎◌, ◌↔◌, inl, inr, sym, subst, arith, ⊎_elim}
use Rattle.std.proofs.lemmas.Bool.{cases_lt, cases_eq}
use Rattle.dnsv_records.specs.Rrsig.Time.{ValidAt}
use Rattle.dnsv_timeline.specs.declared.times.Times.{Times}
use Rattle.dnsv_timeline.specs.Points.{Begins, Ends, IsChange, IsValidAt}
use Rattle.dnsv_timeline.specs.Window.{IsWindow}
use Rattle.dnsv_timeline.proofs.CircleLemmas.{on, on_ahead, on_around, on_below, on_beyond, on_further, rest_ahead, rest_around}

-- ---- what is less than half of the circle behind the start, and less than half of it before the end

pub record IsBetween (half start end moment : ℕ) : Type 0 where
  pub begun : on (2 * half) start moment < half
  pub not_over : on (2 * half) moment end < half

-- the end is less than half of the circle behind the start
pub usual : (half start end moment : ℕ) → 0 < half → on (2 * half) start end < half
    → IsBetween half start end moment ↔ ((0 ≤ on (2 * half) start moment) × (on (2 * half) start moment < on (2 * half) start end + 1))
usual half start end moment positive short = (
  λ between. (
    omega arith,
    ⊎_elim (λ (beyond : on (2 * half) start end < on (2 * half) start moment).
        let far = rest_around (2 * half) start end moment (omega arith) beyond in omega (arith, far, between.begun, between.not_over))
        (λ (within : on (2 * half) start moment ≤ on (2 * half) start end). omega (arith, within))
        (cases_lt (on (2 * half) start end) (on (2 * half) start moment)),
  ),
  λ within. let rest = rest_ahead (2 * half) start end moment (omega arith) (omega (arith, within.1)) in
      record { begun = omega (arith, within.1); not_over = omega (arith, rest, short) },
)

-- it is half of it behind or more
pub odd : (half start end moment : ℕ) → 0 < half → half ≤ on (2 * half) start end
    → IsBetween half start end moment ↔ (((on (2 * half) start end - half) + 1 ≤ on (2 * half) start moment) × (on (2 * half) start moment < half))
odd half start end moment positive long = (
  λ between.
      let rest = rest_ahead (2 * half) start end moment (omega arith) (omega (arith, between.begun)) in
      (omega (arith, rest, between.not_over), between.begun),
  λ within. let rest = rest_ahead (2 * half) start end moment (omega arith) (omega (arith, within.1)) in
      record { begun = within.1; not_over = omega (arith, rest, within.0) },
)

-- ---- windows

-- as a window says it
pub window_usual : (times : Times) → on 4294967296 times.inception.0 times.expiration.0 < 2147483648
    → IsWindow times 0 (on 4294967296 times.inception.0 times.expiration.0 + 1)
window_usual times short = record {
  some = omega arith;
  small = omega (arith, short);
  valid = λ moment. let is = usual 2147483648 times.inception.0 times.expiration.0 moment (omega arith) short in (
    λ valid. is.0 (record { begun = valid.begun; not_over = valid.not_over }),
    λ within. let between = is.1 within in record { begun = between.begun; not_over = between.not_over },
  );
}

pub window_odd : (times : Times) → 2147483648 ≤ on 4294967296 times.inception.0 times.expiration.0
    → on 4294967296 times.inception.0 times.expiration.0 < 4294967295
    → IsWindow times ((on 4294967296 times.inception.0 times.expiration.0 - 2147483648) + 1) 2147483648
window_odd times long some = record {
  some = omega (arith, some, long);
  small = omega arith;
  valid = λ moment. let is = odd 2147483648 times.inception.0 times.expiration.0 moment (omega arith) long in (
    λ valid. is.0 (record { begun = valid.begun; not_over = valid.not_over }),
    λ within. let between = is.1 within in record { begun = between.begun; not_over = between.not_over },
  );
}

pub never : (times : Times) (moment : ℕ) → on 4294967296 times.inception.0 times.expiration.0 ≡ 4294967295
    → IsValidAt times moment → ⊥
never times moment longest valid =
    let is = odd 2147483648 times.inception.0 times.expiration.0 moment (omega arith) (omega (arith, longest)) in
    let within = is.0 (record { begun = valid.begun; not_over = valid.not_over }) in
    omega (arith, within.0, within.1, longest)

-- ---- where a window begins and ends

-- Of two numbers of seconds behind the inception, one and the next around the circle, just one is in the window where
-- the next one begins it or is the first behind it.
next_of : (n f moment : ℕ) → 1 < n → (on n f (moment + 1) ≡ on n f moment + 1) ⊎ ((on n f (moment + 1) ≡ 0) × (on n f moment + 1 ≡ n))
next_of n f moment large =
    let below = on_below n f moment (omega arith) in
    ⊎_elim (λ (few : on n f moment + 1 < n). inl (on_further n f moment 1 few))
    (λ (many : n ≤ on n f moment + 1). let around = on_beyond n f moment 1 large (omega arith) many in
    inr (omega (arith, around, below, many), omega (arith, below, many)))
    (cases_lt (on n f moment + 1) n)

-- the window holds the number
abbrev Within : ℕ → ℕ → ℕ → Type 0
Within start end number = (start ≤ number) × (number < end)

-- the signature changes just where the window begins or is over
pub changes_at : (times : Times) (start end before : ℕ) → IsWindow times start end
    → IsChange times (before + 1)
    → (on 4294967296 times.inception.0 (before + 1) ≡ start) ⊎ (on 4294967296 times.inception.0 (before + 1) ≡ end)
changes_at times start end before window change =
    let is = window.valid before in
    let next = window.valid (before + 1) in
    let same : (before + 1) - 1 ≡ before = omega arith in
    ⊎_elim (λ (begins : Begins times (before + 1)).
    let now = next.0 begins.1 in
    let not_before : Within start end (on 4294967296 times.inception.0 before) → ⊥ =
    λ within. begins.0 (subst (IsValidAt times) (sym same) (is.1 within)) in
    ⊎_elim (λ (e : on 4294967296 times.inception.0 (before + 1) ≡ on 4294967296 times.inception.0 before + 1).
    ⊎_elim (λ (more : start < on 4294967296 times.inception.0 (before + 1)).
    absurd (not_before (omega (arith, more, e), omega (arith, now.1, e))))
    (λ (less : on 4294967296 times.inception.0 (before + 1) ≤ start). inl (omega (arith, less, now.0)))
    (cases_lt start (on 4294967296 times.inception.0 (before + 1))))
    (λ (e : (on 4294967296 times.inception.0 (before + 1) ≡ 0) × (on 4294967296 times.inception.0 before + 1 ≡ 4294967296)).
    inl (omega (arith, e.0, now.0)))
    (next_of 4294967296 times.inception.0 before (omega arith)))
    (λ (ends : Ends times (before + 1)).
    let was = is.0 (subst (IsValidAt times) same ends.0) in
    let not_now : Within start end (on 4294967296 times.inception.0 (before + 1)) → ⊥ = λ within. ends.1 (next.1 within) in
    let small = window.small in
    ⊎_elim (λ (e : on 4294967296 times.inception.0 (before + 1) ≡ on 4294967296 times.inception.0 before + 1).
    ⊎_elim (λ (less : on 4294967296 times.inception.0 (before + 1) < end).
    absurd (not_now (omega (arith, was.0, e), less)))
    (λ (more : end ≤ on 4294967296 times.inception.0 (before + 1)). inr (omega (arith, more, was.1, e)))
    (cases_lt (on 4294967296 times.inception.0 (before + 1)) end))
    (λ (e : (on 4294967296 times.inception.0 (before + 1) ≡ 0) × (on 4294967296 times.inception.0 before + 1 ≡ 4294967296)).
    absurd (omega (arith, e.1, was.1, small)))
    (next_of 4294967296 times.inception.0 before (omega arith)))
    change

pub begins_where : (times : Times) (start end before : ℕ) → IsWindow times start end
    → on 4294967296 times.inception.0 (before + 1) ≡ start → IsChange times (before + 1)
begins_where times start end before window there =
    let is = window.valid before in
    let next = window.valid (before + 1) in
    let same : (before + 1) - 1 ≡ before = omega arith in
    let some = window.some in
    let small = window.small in
    let now : IsValidAt times (before + 1) = next.1 (omega (arith, there), omega (arith, there, some)) in
    let outside : Within start end (on 4294967296 times.inception.0 before) → ⊥ = λ within.
    ⊎_elim (λ (e : on 4294967296 times.inception.0 (before + 1) ≡ on 4294967296 times.inception.0 before + 1).
    omega (arith, e, there, within.0))
    (λ (e : (on 4294967296 times.inception.0 (before + 1) ≡ 0) × (on 4294967296 times.inception.0 before + 1 ≡ 4294967296)).
    omega (arith, e.1, within.1, small))
    (next_of 4294967296 times.inception.0 before (omega arith)) in
    inl ((λ valid. outside (is.0 (subst (IsValidAt times) same valid))), now)

pub ends_where : (times : Times) (start end before : ℕ) → IsWindow times start end
    → on 4294967296 times.inception.0 (before + 1) ≡ end → IsChange times (before + 1)
ends_where times start end before window there =
    let is = window.valid before in
    let next = window.valid (before + 1) in
    let same : (before + 1) - 1 ≡ before = omega arith in
    let some = window.some in
    let over : IsValidAt times (before + 1) → ⊥ = λ valid. let within = next.0 valid in omega (arith, within.1, there) in
    let was : Within start end (on 4294967296 times.inception.0 before) =
    ⊎_elim (λ (e : on 4294967296 times.inception.0 (before + 1) ≡ on 4294967296 times.inception.0 before + 1).
    let here : Within start end (on 4294967296 times.inception.0 before) = (omega (arith, e, there, some), omega (arith, e, there)) in here)
    (λ (e : (on 4294967296 times.inception.0 (before + 1) ≡ 0) × (on 4294967296 times.inception.0 before + 1 ≡ 4294967296)).
    absurd (omega (arith, e.0, there, some)))
    (next_of 4294967296 times.inception.0 before (omega arith)) in
    inr (subst (IsValidAt times) (sym same) (is.1 was), over)

-- ---- so many seconds behind a moment

-- where the number of seconds behind the inception is, seen from a moment that is as many behind it
pub behind_moment : (n f from number seconds : ℕ) → number < n → 0 < seconds → seconds < n
    → on n f (from + seconds) ≡ number → seconds ≡ on n (on n f from) number
behind_moment n f from number seconds below some few is =
    let positive : 0 < n = omega arith in
    let small = on_below n f from positive in
    ⊎_elim (λ (ahead : on n f from + seconds < n).
    let e = on_further n f from seconds ahead in
    let there = on_ahead n (on n f from) number (omega (arith, e, is)) below in omega (arith, e, is, there))
    (λ (around : n ≤ on n f from + seconds).
    let e = on_beyond n f from seconds few positive around in
    let there = on_around n (on n f from) number (omega (arith, e, is, few)) small in omega (arith, e, is, there, around))
    (cases_lt (on n f from + seconds) n)

pub moment_behind : (n f from number : ℕ) → number < n → on n f (from + on n (on n f from) number) ≡ number
moment_behind n f from number below =
    let positive : 0 < n = omega arith in
    let small = on_below n f from positive in
    ⊎_elim (λ (before : number < on n f from).
    let there = on_around n (on n f from) number before small in
    let e = on_beyond n f from (on n (on n f from) number) (on_below n (on n f from) number positive) positive (omega (arith, there)) in
    omega (arith, e, there, before, small))
    (λ (behind : on n f from ≤ number).
    let there = on_ahead n (on n f from) number behind below in
    let e = on_further n f from (on n (on n f from) number) (omega (arith, there, below)) in omega (arith, e, there, behind))
    (cases_lt number (on n f from))
