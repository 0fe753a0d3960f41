-- the zones so far
use Rattle.dnsv_chain.specs.Trust.{SecuredIn}
use Rattle.dnsv_denial.proofs.lemmas.gathering.ByZoneLemmas.{AreZonesBefore}
use Rattle.dnsv_denial.proofs.gathering.denial_records.secured_zones.Given as goal

abbrev pub invariant-loop-entry : goal.invariant-loop-entry
invariant-loop-entry l = AreZonesBefore (SecuredIn l.trust) l.capture.rrsets l.numbers.entries l.entry-iterator l.zones.items
