use Rattle.std.proofs.Common.{take}
use Rattle.dnsv_derivations.specs.intervals.Holding.{IsHolding}
use Rattle.dnsv_derivations.proofs.interval.holding.Given as goal

abbrev pub invariant-loop-times : goal.invariant-loop-times
invariant-loop-times l = IsHolding (take l.times-index l.signatures) l.moment l.interval
