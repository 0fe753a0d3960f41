use Rattle.std.proofs.Common.{◌<◌}
use Rattle.dnsv_derivations.specs.Rising.{AreRisingTo}
use Rattle.dnsv_derivations.proofs.todo.are_rising.Given as goal

-- those so far rise
abbrev pub invariant-loop-place : goal.invariant-loop-place
invariant-loop-place l = (0 < l.place) × AreRisingTo l.entries l.place
