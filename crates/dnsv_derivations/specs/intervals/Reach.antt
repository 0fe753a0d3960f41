-- How far one signature reaches around a moment at which it is valid. No public clause cites this module.
use Rattle.std.specs.Prelude.{◌≡◌, ℕ, ◌+◌, ◌-◌, ◌^◌, min}
use Rattle.dnsv_records.specs.Rrsig.Time.{seconds_on}
use Rattle.dnsv_lines.specs.declared.line.interval.Interval.{Interval}
use Rattle.dnsv_derivations.specs.declared.interval.Times.{Times}

-- how many seconds before the moment the signature is valid without a break
abbrev pub seconds_before : Times → ℕ → ℕ
seconds_before times moment =
    min (seconds_on times.inception.0 moment) (2147483647 - seconds_on moment times.expiration.0)

-- and how many behind it
abbrev pub seconds_behind : Times → ℕ → ℕ
seconds_behind times moment =
    min (seconds_on moment times.expiration.0) (2147483647 - seconds_on times.inception.0 moment)

-- from so many seconds before the moment, or from 0 on, to so many behind it, or to the last number of 64 bits
pub record IsReach (times : Times) (moment : ℕ) (interval : Interval) : Type 0 where
  pub from : interval.from ≡ moment - seconds_before times moment
  pub to : interval.to ≡ min (moment + seconds_behind times moment) (2 ^ 64 - 1)
