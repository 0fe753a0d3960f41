use Rattle.std.proofs.Common.{[], take}
use Rattle.dnsv_verifier.specs.Asking.{AddsJust, ComesOfSome}
use Rattle.dnsv_faults.specs.KnownZones.KnownSearch.{IsSpokenBy}
use Rattle.dnsv_faults.proofs.known.speakers.speakers.Given as goal

-- those of the RRsets so far
abbrev pub invariant-loop-rrset : goal.invariant-loop-rrset
invariant-loop-rrset l = AddsJust (ComesOfSome (IsSpokenBy l.name l.rtype.0) (take l.rrset-index l.rrsets)) [] l.numbers.items
