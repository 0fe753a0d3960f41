-- The first and the last of the moments that a file of answers is for.
use Rattle.std.specs.Prelude.{ℕ}
use Rattle.dnsv_answers.specs.declared.heading.Moments.{Moments}
use Rattle.dnsv_answers.specs.declared.heading.Moments.TheVariants.{At, Between}

abbrev pub begin_of : Moments → ℕ
begin_of (At moment) = moment
begin_of (Between from to) = from

abbrev pub end_of : Moments → ℕ
end_of (At moment) = moment
end_of (Between from to) = to
