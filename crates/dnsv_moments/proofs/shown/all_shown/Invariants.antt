use Rattle.std.proofs.Common.{take, []}
use Rattle.dnsv_verifier.specs.Asking.{AddsJust, ComesOfSome}
use Rattle.dnsv_moments.specs.Shown.{Shows}
use Rattle.dnsv_moments.proofs.shown.all_shown.Given as goal

-- those of the lines so far
abbrev pub invariant-loop-line : goal.invariant-loop-line
invariant-loop-line l = AddsJust (ComesOfSome Shows (take l.line-index l.lines)) [] l.shown.items
