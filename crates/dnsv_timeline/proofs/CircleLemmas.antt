-- Distances around a circle of n numbers.
use Rattle.std.proofs.Common.{◌≡◌, ℕ, ◌+◌, ◌*◌, ◌-◌, ◌/◌, ◌%◌, ◌<◌, ◌≤◌, ◌⊎◌, inl, inr, sym, ap, ◌∙◌, arith, ⊎_elim}
use Rattle.std.proofs.Math.Nat.{add-mul-mod_self_right, mod-eq_of_lt}
use Rattle.std.proofs.lemmas.Bool.{cases_lt}
use Rattle.std.proofs.lemmas.Nat.{div-add-mod', mod_below}

-- how far it is from one number on to another
abbrev pub on : ℕ → ℕ → ℕ → ℕ
on n from to = (to + (n - from % n)) % n

-- the distance is the one below n by which the two differ, up to whole rounds
one_distance : (n f t r s j k p q : ℕ) → r < n → s < n
    → t + k * n ≡ f + r + j * n → t + p * n ≡ f + s + q * n → r ≡ s
one_distance n f t r s j k p q r_below s_below first second =
    let sums : r + (j + p) * n ≡ s + (q + k) * n = grind arith in
    let mods : (r + (j + p) * n) % n ≡ (s + (q + k) * n) % n = ap (λ x. x % n) sums in
    let left : r % n ≡ r = mod-eq_of_lt r_below in
    let right : s % n ≡ s = mod-eq_of_lt s_below in
    sym left ∙ sym (add-mul-mod_self_right r (j + p) n) ∙ mods ∙ add-mul-mod_self_right s (q + k) n ∙ right

pub on_rounds : (n f t : ℕ) → 0 < n → t + (1 + f / n) * n ≡ f + on n f t + ((t + (n - f % n)) / n) * n
on_rounds n f t positive =
    let whole = div-add-mod' (t + (n - f % n)) n in
    let part = div-add-mod' f n in
    let below : f % n < n = mod_below f n positive in
    grind arith

pub on_is : (n f t r j k : ℕ) → r < n → t + k * n ≡ f + r + j * n → on n f t ≡ r
on_is n f t r j k below e =
    let positive : 0 < n = omega arith in
    one_distance n f t (on n f t) r _ _ k j (mod_below (t + (n - f % n)) n positive) below (on_rounds n f t positive) e

pub on_below : (n f t : ℕ) → 0 < n → on n f t < n
on_below n f t positive = mod_below (t + (n - f % n)) n positive

-- from one number below n on to another
pub on_ahead : (n a y : ℕ) → a ≤ y → y < n → on n a y ≡ y - a
on_ahead n a y behind below = on_is n a y (y - a) 0 0 (omega arith) (omega arith)

pub on_around : (n a y : ℕ) → y < a → a < n → on n a y ≡ (y + n) - a
on_around n a y before below = on_is n a y ((y + n) - a) 0 1 (omega arith) (omega arith)

-- x numbers further on
pub on_further : (n f t x : ℕ) → on n f t + x < n → on n f (t + x) ≡ on n f t + x
on_further n f t x few =
    let positive : 0 < n = omega arith in
    let rounds = on_rounds n f t positive in
    let e : (t + x) + (1 + f / n) * n ≡ f + (on n f t + x) + ((t + (n - f % n)) / n) * n = omega (arith, rounds) in
    on_is n f (t + x) (on n f t + x) _ _ few e

-- and beyond the start
pub on_beyond : (n f t x : ℕ) → x < n → 0 < n → n ≤ on n f t + x → on n f (t + x) ≡ (on n f t + x) - n
on_beyond n f t x small positive many =
    let rounds = on_rounds n f t positive in
    let below = on_below n f t positive in
    let e : (t + x) + (1 + f / n) * n ≡ f + ((on n f t + x) - n) + (1 + (t + (n - f % n)) / n) * n = grind arith in
    on_is n f (t + x) ((on n f t + x) - n) _ _ (omega arith) e

-- from where one is x numbers behind the start, on to the end
pub rest_ahead : (n f t m : ℕ) → 0 < n → on n f m ≤ on n f t → on n m t ≡ on n f t - on n f m
rest_ahead n f t m positive within =
    let whole = on_rounds n f t positive in
    let part = on_rounds n f m positive in
    let below = on_below n f t positive in
    let e : t + ((m + (n - f % n)) / n) * n ≡ m + (on n f t - on n f m) + ((t + (n - f % n)) / n) * n = omega (arith, whole, part) in
    on_is n m t (on n f t - on n f m) _ _ (omega arith) e

pub rest_around : (n f t m : ℕ) → 0 < n → on n f t < on n f m → on n m t ≡ (n + on n f t) - on n f m
rest_around n f t m positive beyond =
    let whole = on_rounds n f t positive in
    let part = on_rounds n f m positive in
    let below = on_below n f m positive in
    let e : t + (1 + (m + (n - f % n)) / n) * n ≡ m + ((n + on n f t) - on n f m) + ((t + (n - f % n)) / n) * n = grind arith in
    on_is n m t ((n + on n f t) - on n f m) _ _ (omega arith) e
