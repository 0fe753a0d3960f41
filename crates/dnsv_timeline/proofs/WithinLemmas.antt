-- Where a signature is valid at some moment of a range.
use Rattle.std.proofs.Common.{◌≡◌, ◌↔◌, ◌∙◌, ℕ, ◌+◌, ◌-◌, ◌<◌, ◌≤◌, ◌⊎◌, inl, inr, ap, subst, Bool, arith, ⊎_elim}
use Rattle.std.proofs.lemmas.Bool.{cases_lt}
use Rattle.std.specs.Prelude.{IsTrue}
use Rattle.dnsv_records.specs.Rrsig.Time.{seconds_on}
use Rattle.dnsv_timeline.specs.declared.times.Times.{Times}
use Rattle.dnsv_timeline.specs.Points.{IsValidWithin}
use Rattle.dnsv_timeline.specs.Range.{IsRange}
use Rattle.dnsv_timeline.specs.Window.{IsWindow}
use Rattle.dnsv_timeline.proofs.CircleLemmas.{on, on_ahead, on_around, on_below, on_beyond, on_further}
use Rattle.dnsv_timeline.proofs.WindowLemmas.{moment_behind}

-- it is valid so many seconds behind its inception, or from at most so many seconds later on
abbrev pub IsMet : ℕ → ℕ → ℕ → ℕ → Type 0
IsMet start end since seconds = ((start ≤ since) × (since < end)) ⊎ (on 4294967296 since start ≤ seconds)

-- where a moment so many seconds behind the first one is within the window, the window was open, or opened no later
met_at : (n f from start end x : ℕ) → start < n → x < n → start ≤ on n f (from + x) → on n f (from + x) < end
    → ((start ≤ on n f from) × (on n f from < end)) ⊎ (on n (on n f from) start ≤ x)
met_at n f from start end x below few begun left =
    let positive : 0 < n = omega arith in
    let small = on_below n f from positive in
    ⊎_elim (λ (ahead : on n f from + x < n).
    let e = on_further n f from x ahead in
    ⊎_elim (λ (before : on n f from < start).
    let there = on_ahead n (on n f from) start (omega (arith, before)) below in inr (omega (arith, there, begun, e)))
    (λ (open_ : start ≤ on n f from). inl (open_, omega (arith, left, e)))
    (cases_lt (on n f from) start))
    (λ (around : n ≤ on n f from + x).
    let e = on_beyond n f from x few positive around in
    ⊎_elim (λ (before : start < on n f from).
    let there = on_around n (on n f from) start before small in inr (omega (arith, there, begun, e, around, small)))
    (λ (behind : on n f from ≤ start).
    let there = on_ahead n (on n f from) start behind below in inr (omega (arith, there, begun, e, around, small)))
    (cases_lt start (on n f from)))
    (cases_lt (on n f from + x) n)

module _ (times : Times) (start end from to : ℕ) (range : IsRange from to) (window : IsWindow times start end) where
  abbrev Since : ℕ
  Since = on 4294967296 times.inception.0 from

  is_met : IsValidWithin times from to → IsMet start end Since (to - from)
  is_met valid =
      let begins = valid.begins in
      let ends = valid.ends in
      let long = range.long in
      let some = window.some in
      let small = window.small in
      let there : valid.moment ≡ from + (valid.moment - from) = omega (arith, begins) in
      let within = (window.valid valid.moment).0 valid.valid in
      let In : ℕ → Type 0 = λ m. (start ≤ on 4294967296 times.inception.0 m) × (on 4294967296 times.inception.0 m < end) in
      let at : In (from + (valid.moment - from)) = subst In there within in
      ⊎_elim (λ (open_ : (start ≤ Since) × (Since < end)). inl open_)
      (λ (soon : on 4294967296 Since start ≤ valid.moment - from). inr (omega (arith, soon, ends)))
      (met_at 4294967296 times.inception.0 from start end (valid.moment - from) (omega (arith, some, small)) (omega (arith, long, ends)) at.0 at.1)

  met_is : IsMet start end Since (to - from) → IsValidWithin times from to
  met_is (inl open_) =
      let turned = range.turned in
      record { moment = from; begins = omega arith; ends = turned; valid = (window.valid from).1 open_ }
  met_is (inr soon) =
      let turned = range.turned in
      let some = window.some in
      let small = window.small in
      let at = moment_behind 4294967296 times.inception.0 from start (omega (arith, some, small)) in
      record {
        moment = from + on 4294967296 Since start;
        begins = omega arith;
        ends = omega (arith, soon, turned);
        valid = (window.valid (from + on 4294967296 Since start)).1 (omega (arith, at), omega (arith, at, some));
      }

  pub met : IsMet start end Since (to - from) ↔ IsValidWithin times from to
  met = (met_is, is_met)

-- and so of a test of it, by what the calls say
pub within_by : (times : Times) (start end from to since first last again : ℕ) (result : Bool) → IsRange from to → IsWindow times start end
    → first ≡ from → since ≡ seconds_on times.inception.0 first → last ≡ to → again ≡ from
    → (IsTrue result ↔ IsMet start end since (last - again)) → IsTrue result ↔ IsValidWithin times from to
within_by times start end from to since first last again result range window is_first is_since is_last is_again test =
    let here : since ≡ on 4294967296 times.inception.0 from =
    is_since ∙ ap (λ (m : ℕ). on 4294967296 times.inception.0 m) is_first in
    let seconds : last - again ≡ to - from = omega (arith, is_last, is_again) in
    let Test : ℕ → ℕ → Type 0 = λ s x. IsTrue result ↔ IsMet start end s x in
    let tests : Test (on 4294967296 times.inception.0 from) (to - from) = subst (λ x. Test (on 4294967296 times.inception.0 from) x) seconds (subst (λ s. Test s (last - again)) here test) in
    let whole = met times start end from to range window in
    (λ true_. whole.0 (tests.0 true_), λ valid. tests.1 (whole.1 valid))
