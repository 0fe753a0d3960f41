-- The moments that a request asks about: one, or those of a range.
use Rattle.dnsv_answers.specs.declared.heading.Moments.{Moments}
use Rattle.dnsv_answers.specs.declared.heading.Moments.TheVariants.{At, Between}
use Rattle.dnsv_work.specs.declared.span.Span.{Span}
use Rattle.dnsv_work.specs.declared.span.Span.TheVariants as span

-- as lists and answers have them
abbrev pub moments_of : Span → Moments
moments_of (span.At moment) = At moment
moments_of (span.Within range) = Between range.from range.to
