use Rattle.std.proofs.Common.{take}
use Rattle.std.specs.List.{AllZip}
use Rattle.dnsv_gaps.specs.CaseSearch.{IsHeldBy}
use Rattle.dnsv_gaps.proofs.speakers.cases.at_name.held_by_each.Given as goal

-- what is told of the records so far
abbrev pub invariant-loop-place : goal.invariant-loop-place
invariant-loop-place l = AllZip (IsHeldBy l.source l.rtype.0) (take l.place-index l.places) l.told.items
