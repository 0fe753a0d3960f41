-- what the chains so far show is found
use Rattle.std.proofs.Common.{List}
use Rattle.dnsv_canonical.specs.Rrsets.{ReceivedRrset}
use Rattle.dnsv_chain.specs.Trust.{KeptTrust, SecuredIn}
use Rattle.dnsv_denial.specs.gathering.Kept.{IsZoneOf}
use Rattle.dnsv_denial.specs.proving.ZoneChains.{chains_of}
use Rattle.dnsv_denial.specs.unsigned_cuts.ShownCuts.{AreShown, IsCutOf, IsOfFirst, IsOptOutOf}
use Rattle.dnsv_denial.proofs.unsigned_cuts.shown_cuts.zone_cuts.Given as goal

abbrev pub invariant-loop-number : goal.invariant-loop-number
invariant-loop-number l =
    (trust : KeptTrust) (rrsets : List ReceivedRrset) → IsZoneOf (SecuredIn trust) rrsets l.zone
    → AreShown (IsOfFirst (chains_of l.sets) (IsCutOf (SecuredIn trust) rrsets l.name l.zone.zone) l.number)
    (IsOfFirst (chains_of l.sets) (IsOptOutOf (SecuredIn trust) rrsets l.name l.zone.zone) l.number) l.found
