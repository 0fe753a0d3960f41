-- the zones so far
use Rattle.std.proofs.Common.{List}
use Rattle.dnsv_canonical.specs.Rrsets.{ReceivedRrset}
use Rattle.dnsv_chain.specs.Trust.{KeptTrust, SecuredIn}
use Rattle.dnsv_denial.specs.gathering.ByZone.{AreDenialRecords}
use Rattle.dnsv_denial.proofs.lemmas.gathering.GatherZoneLemmas.{AreZonesTo}
use Rattle.dnsv_denial.proofs.gathering.zones.lent_zones.Given as goal

abbrev pub invariant-loop-labels : goal.invariant-loop-labels
invariant-loop-labels l =
    (trust : KeptTrust) (rrsets : List ReceivedRrset) → AreDenialRecords (SecuredIn trust) rrsets l.denials
    → AreZonesTo (SecuredIn trust) rrsets l.name l.labels l.zones.items
