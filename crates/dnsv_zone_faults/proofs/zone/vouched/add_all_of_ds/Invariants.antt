use Rattle.std.proofs.Common.{take}
use Rattle.dnsv_verifier.specs.Asking.{AddsJust, ComesOfSome}
use Rattle.dnsv_zone_faults.specs.Groups.GroupSearch.{IsMatchedByDs}
use Rattle.dnsv_zone_faults.proofs.zone.vouched.add_all_of_ds.Given as goal

-- those of the DS RRsets so far
abbrev pub invariant-loop-each : goal.invariant-loop-each
invariant-loop-each l = AddsJust (ComesOfSome IsMatchedByDs (take l.each-index l.ds)) l.initial.places.items l.places.items
