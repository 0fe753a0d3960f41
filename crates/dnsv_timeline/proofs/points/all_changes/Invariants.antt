use Rattle.std.proofs.Common.{take}
use Rattle.dnsv_timeline.specs.Window.{AreChanges}
use Rattle.dnsv_timeline.proofs.points.all_changes.Given as goal

-- the changes of the signatures so far
abbrev pub invariant-loop-times : goal.invariant-loop-times
invariant-loop-times l = AreChanges l.range.from l.range.to (take l.times-index l.signatures) l.moments.items
