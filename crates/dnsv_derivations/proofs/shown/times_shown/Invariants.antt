use Rattle.std.proofs.Common.{take, []}
use Rattle.dnsv_verifier.specs.Asking.{AddsJust, ComesOfSome}
use Rattle.dnsv_derivations.specs.intervals.Holding.{ShowsTimes}
use Rattle.dnsv_derivations.proofs.shown.times_shown.Given as goal

abbrev pub invariant-loop-line : goal.invariant-loop-line
invariant-loop-line l = AddsJust (ComesOfSome (ShowsTimes l.rrsets) (take l.line-index l.lines)) [] l.times.items
