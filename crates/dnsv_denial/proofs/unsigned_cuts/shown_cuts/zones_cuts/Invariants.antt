-- what the zones so far show is found
use Rattle.std.proofs.Common.{List}
use Rattle.dnsv_canonical.specs.Rrsets.{ReceivedRrset}
use Rattle.dnsv_chain.specs.Trust.{KeptTrust, SecuredIn}
use Rattle.dnsv_denial.specs.gathering.Kept.{AreSets, AreZones}
use Rattle.dnsv_denial.specs.unsigned_cuts.ShownCuts.{AreShown, IsCutIn, IsOfFirst, IsOptOutIn}
use Rattle.dnsv_denial.proofs.unsigned_cuts.shown_cuts.zones_cuts.Given as goal

abbrev pub invariant-loop-zone : goal.invariant-loop-zone
invariant-loop-zone l =
    (trust : KeptTrust) (rrsets : List ReceivedRrset) → AreZones (SecuredIn trust) rrsets l.name l.zones
    → AreSets (SecuredIn trust) rrsets l.sets
    → AreShown (IsOfFirst l.zones (λ zone. IsCutIn (SecuredIn trust) rrsets l.name zone.zone) l.zone-index)
    (IsOfFirst l.zones (λ zone. IsOptOutIn (SecuredIn trust) rrsets l.name zone.zone) l.zone-index) l.found
