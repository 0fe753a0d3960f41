-- The greatest interval in which signatures are valid, one signature after another.
use Rattle.std.proofs.Common.{◌≡◌, ℕ, ◌+◌, ◌-◌, ◌^◌, ◌<◌, ◌≤◌, List, [], ◌∷◌, ◌++◌, length, take, get_or, refl, sym, subst, arith, max, min, ⊎_elim}
use Rattle.std.specs.List.{All, Contains}
use Rattle.std.proofs.Math.Seq.{take-append_seam}
use Rattle.std.proofs.lemmas.Bool.{cases_lt}
use Rattle.std.proofs.lemmas.List.{take_more}
use Rattle.std.proofs.lemmas.List.Elements.{All-contains, All-get_or, All-push, All-same, All-take, Contains-append_right}
use Rattle.dnsv_records.specs.Rrsig.Time.{ValidAt}
use Rattle.dnsv_derivations.specs.intervals.Holding.{IsHolding, AreValidAt, IsGreatestAround}
use Rattle.dnsv_derivations.specs.intervals.Reach.{IsReach, seconds_before, seconds_behind}
use Rattle.dnsv_lines.specs.declared.line.interval.Interval.{Interval}
use Rattle.dnsv_derivations.specs.declared.interval.Times.{Times}
use Rattle.dnsv_derivations.proofs.lemmas.intervals.CircleLemmas.{IsBetween, between_within, none_before, none_behind}

-- what holds of each of some and of one more
front : {X : Type 0} (P : X → Type 0) (xs : List X) (x : X) → All P (xs ++ x ∷ []) → All P xs
front P xs x all =
    All-same P xs (take (length xs) (xs ++ x ∷ [])) (sym (take-append_seam xs (x ∷ []))) (All-take P (length xs) (xs ++ x ∷ []) all)

last_one : {X : Type 0} (P : X → Type 0) (xs : List X) (x : X) → All P (xs ++ x ∷ []) → P x
last_one P xs x all =
    let itself : Contains (x ∷ []) x = (0, omega arith, refl) in
    All-contains P (xs ++ x ∷ []) x all (Contains-append_right xs (x ∷ []) x itself)

abbrev IsValid : Times → ℕ → Type 0
IsValid times moment = ValidAt times.inception.0 times.expiration.0 moment

abbrev Between : Times → ℕ → Type 0
Between times moment = IsBetween 2147483648 times.inception.0 times.expiration.0 moment

between_of : (times : Times) (moment : ℕ) → IsValid times moment → Between times moment
between_of times moment valid = record { begun = valid.begun; not_over = valid.not_over }

valid_of : (times : Times) (moment : ℕ) → Between times moment → IsValid times moment
valid_of times moment between = record { begun = between.begun; not_over = between.not_over }

-- a signature is valid at each moment of its reach
pub reach_valid : (times : Times) (moment other : ℕ) (reach : Interval) → IsValid times moment → IsReach times moment reach
    → reach.from ≤ other → other ≤ reach.to → IsValid times other
reach_valid times moment other reach valid is from to =
    let begins : moment - seconds_before times moment ≤ other = omega (arith, is.from, from) in
    let ends : other ≤ moment + seconds_behind times moment = omega (arith, is.to, to) in
    valid_of times other
    (between_within 2147483648 times.inception.0 times.expiration.0 moment other (between_of times moment valid) begins ends)

-- and a span of moments around this one at which it is valid is within its reach
pub reach_greatest : (times : Times) (moment from to : ℕ) (reach : Interval) → IsValid times moment
    → IsReach times moment reach → from ≤ moment → moment ≤ to → to < 2 ^ 64
    → ((other : ℕ) → from ≤ other → other ≤ to → IsValid times other) → (reach.from ≤ from) × (to ≤ reach.to)
reach_greatest times moment from to reach valid is begins ends fits each =
    let now = between_of times moment valid in
    let before : moment - seconds_before times moment ≤ from =
    ⊎_elim (λ (beyond : from < moment - seconds_before times moment).
    absurd (none_before 2147483648 times.inception.0 times.expiration.0 moment now (omega arith)
    (between_of times (moment - (seconds_before times moment + 1))
    (each (moment - (seconds_before times moment + 1)) (omega arith) (omega arith)))))
    (λ (within : moment - seconds_before times moment ≤ from). within)
    (cases_lt from (moment - seconds_before times moment)) in
    let behind : to ≤ moment + seconds_behind times moment =
    ⊎_elim (λ (beyond : moment + seconds_behind times moment < to).
    absurd (none_behind 2147483648 times.inception.0 times.expiration.0 moment now
    (between_of times (moment + (seconds_behind times moment + 1))
    (each (moment + (seconds_behind times moment + 1)) (omega arith) (omega arith)))))
    (λ (within : to ≤ moment + seconds_behind times moment). within)
    (cases_lt (moment + seconds_behind times moment) to) in
    (omega (arith, is.from, before), omega (arith, is.to, behind, fits))

-- one signature more
pub holding_more : (before : List Times) (times : Times) (moment : ℕ) (interval reach both : Interval)
    → moment < 2 ^ 64 → IsHolding before moment interval → IsValid times moment → IsReach times moment reach
    → both.from ≡ max interval.from reach.from → both.to ≡ min interval.to reach.to
    → IsHolding (before ++ times ∷ []) moment both
holding_more before times moment interval reach both fits holding valid is from to = record {
  begins = omega (arith, from, holding.begins, is.from);
  ends = omega (arith, to, holding.ends, is.to, fits);
  last = omega (arith, to, holding.last);
  holds = λ other begins ends. All-push (λ each. IsValid each other) before times
      (holding.holds other (omega (arith, from, begins)) (omega (arith, to, ends)))
      (reach_valid times moment other reach valid is (omega (arith, from, begins)) (omega (arith, to, ends)));
  greatest = λ first final begins ends last each.
      let others = holding.greatest first final begins ends last (λ other a b.
      front (λ one. IsValid one other) before times (each other a b)) in
      let this = reach_greatest times moment first final reach valid is begins ends (omega (arith, last, fits))
      (λ other a b. last_one (λ one. IsValid one other) before times (each other a b)) in
      (omega (arith, from, others.0, this.0), omega (arith, to, others.1, this.1));
}

-- the one with the place i
pub holding_at : (all : List Times) (i : ℕ) (other : Times) (moment : ℕ) (interval reach both : Interval)
    → i < length all → moment < 2 ^ 64 → All (λ times. IsValid times moment) all
    → IsHolding (take i all) moment interval → IsReach (get_or all i other) moment reach
    → both.from ≡ max interval.from reach.from → both.to ≡ min interval.to reach.to
    → IsHolding (take (i + 1) all) moment both
holding_at all i other moment interval reach both below fits valid holding is from to =
    let Holds : List Times → Type 0 = λ some. IsHolding some moment both in
    subst Holds (sym (take_more all i other below))
    (holding_more (take i all) (get_or all i other) moment interval reach both fits holding
    (All-get_or (λ times. IsValid times moment) all i other below valid) is from to)

-- two greatest intervals are one
pub one_around : (Holds : ℕ → Type 0) (moment : ℕ) (a b : Interval) → IsGreatestAround Holds moment a → IsGreatestAround Holds moment b
    → a ≡ b
one_around Holds moment a b first second =
    let inner = first.greatest b.from b.to second.begins second.ends second.last second.holds in
    let outer = second.greatest a.from a.to first.begins first.ends first.last first.holds in
    let from : a.from ≡ b.from = omega (arith, inner.0, outer.0) in
    let to : a.to ≡ b.to = omega (arith, inner.1, outer.1) in
    λ i. record { from = from i; to = to i }

pub one_holding : (signatures : List Times) (moment : ℕ) (a b : Interval) → IsHolding signatures moment a
    → IsHolding signatures moment b → a ≡ b
one_holding signatures moment = one_around (AreValidAt signatures) moment
